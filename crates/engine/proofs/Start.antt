-- An accepted question starts a good machine on an accepted sheet.
use mathlib.Core.List.{List, []}
use Rattle.std.specs.Prelude.{Option, None as none, Some as some}
use mathlib.Core.Path.{◌≡◌}
use Prim.Native.Nat.{ℕ, ◌≤◌}
use native.Mathlib.Omega.{arith}
use lib.ListN.{length}
use Rattle.saiga.specs.Limits.{expression_limit}
use Rattle.saiga.specs.Values.{Ty, base, ◌⇒◌}
use Rattle.saiga.specs.declared.Value.{Value}
use Rattle.saiga.specs.Expressions.{Expr, Whole, no_expression, expression, read_whole}
use Rattle.saiga.specs.Sheet.{Sheet, question_scope, piece_of, forward_of, forwarded, ruled, figured, definition, accepted, check_sheet}
use Rattle.saiga.specs.Caching.{Entry}
use Rattle.saiga.specs.Ask.{of_base_type, check_type, check_question, asked}
use Rattle.saiga.proofs.Accepted.{rule-reads, forward-reads, forward-in-rule}
use Rattle.saiga.proofs.Reading.{wider-reads}
use Rattle.engine.specs.Machine.{evaluating, Machine, open_forms, innermost, scope_in, plug, term_of, state_of}
use Rattle.engine.specs.Good.{Pieces, Good, Small}
use Rattle.engine.proofs.Heads.{whole-parses}

-- the machine that starts on a question's bytes
abbrev pub start : List ℕ → List Entry → Machine
start q entries = record { mode = evaluating; rest = q; frames = []; entries = entries; steps = 0 }

pub start_small : (q : List ℕ) (entries : List Entry) → length q ≤ expression_limit → Small (start q entries)
start_small q entries h = (omega arith, tt)

-- what is accepted is read wholly
typed-same : (T : Option Ty) (d e : Expr) → of_base_type T d ≡ accepted e → d ≡ e
unfolding of_base_type
typed-same none d e h = cc
typed-same (some (base B)) d e h = cc
typed-same (some (B ⇒ T)) d e h = cc

pub whole-accepted : (s : Sheet) (w : Whole) (e : Expr) → check_type s w ≡ accepted e → w ≡ expression e
unfolding check_type
whole-accepted s no_expression e h = cc
whole-accepted s (expression d) e h = let z = typed-same _ d e h in cc

pub question-start : (s : Sheet) (q : List ℕ) (e : Expr) → check_question s q ≡ accepted e → (entries : List Entry)
    → Good s (start q entries) × (state_of s (start q entries) ≡ record { term = asked e; entries = entries; steps = 0 })
unfolding check_question state_of term_of open_forms innermost scope_in plug asked
question-start s q e h entries =
    let (parses, is) = whole-parses (whole-accepted s (read_whole (question_scope s) q) e h) in
    ((parses, tt), rw is)

-- a piece that a definition hands on is a rule's, or a forward's
of-rule : (f : Option Value) (r w : Option (List ℕ)) (p : List ℕ) → figured f (ruled r (forwarded w)) ≡ piece_of p → r ≡ some p
unfolding figured ruled forwarded
of-rule (some v) r w p h = cc
of-rule none none none p h = cc
of-rule none none (some q) p h = cc
of-rule none (some q) w p h = cc

of-forward : (f : Option Value) (r w : Option (List ℕ)) (p : List ℕ) → figured f (ruled r (forwarded w)) ≡ forward_of p → w ≡ some p
unfolding figured ruled forwarded
of-forward (some v) r w p h = cc
of-forward none none none p h = cc
of-forward none none (some q) p h = cc
of-forward none (some q) w p h = cc

pub pieces : (bytes : List ℕ) (s : Sheet) → check_sheet bytes ≡ accepted s → Pieces s
unfolding definition
pieces bytes s ok =
    record {
      whole = λ n a p e. rule-reads bytes s ok _ a p (of-rule _ _ _ p e);
      forward = λ n a p e.
          let (x, own) = forward-reads bytes s ok _ p (of-forward _ _ _ p e) in
          (x, own, wider-reads _ _ (forward-in-rule s) p x own);
    }
