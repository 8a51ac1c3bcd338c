-- `opens::has_key` meets its contract: a key's three numbers, by those of the form.
use Rattle.opens.proofs.FormKeys.{form-has}
use Rattle.opens.proofs.has_key.Goals as goal

pub returns : goal.returns
returns c = form-has _ _ _ c.requires.1 _ c.form_place-f.ensures c.from.ensures c.from-2.ensures c.from-3.ensures c.eq.ensures
