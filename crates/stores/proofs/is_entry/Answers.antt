-- `stores::is_entry` meets its contract: each answer by the test that gives it (Checks.antt).
use Rattle.stores.proofs.Checks.{base-tag, undeclared-fails, type-fails, parameter-fails, by_value}
use Rattle.stores.proofs.is_entry.Goals as goal

pub returns-then-declared-from : goal.returns-then-declared-from
returns-then-declared-from c = λ s a n. search undeclared-fails

pub returns-then-e-code : goal.returns-then-e-code
returns-then-e-code c = λ s a n. search (type-fails, base-tag)

pub returns-then-is_word : goal.returns-then-is_word
returns-then-is_word c = λ s a n. search (by_value, base-tag)

pub returns-else-is_word : goal.returns-else-is_word
returns-else-is_word c = λ s a n. search (parameter-fails, base-tag)
