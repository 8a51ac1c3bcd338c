-- What the check of a sheet promises (document 01, "The sheet" and "Stops by origin"): an accepted sheet is within its bounds and
-- its context is correctly typed, a refusal is one of the stops 1 to 8, and the bound on the number of commands is never reached.
use mathlib.Core.Bool.{Bool, true, false, cond, false≢true, ◌&&◌, and-eq-true_iff}
use Rattle.std.specs.Prelude.{Option, None as none, Some as some}
use mathlib.Core.List.{List, [], ◌∷◌}
use mathlib.Core.Path.{◌≡◌, refl, sym, ◌∙◌, subst}
use Prim.Native.Nat.{ℕ, zero, suc, ◌+◌, ◌≤◌, ◌<◌}
use native.Mathlib.Omega.{arith}
use lib.Dec.{leb, ltb, eqb}
use lib.ListN.{length, take, drop, get_or, length-append, length-drop}
use borrow.Author.Tests.{leb-true, ltb-true, eqb-true}
use Rattle.saiga.specs.Limits.{sheet_limit, attribute_limit, node_limit}
use Rattle.saiga.specs.Values.{Base, unit_t, node_t, base, Value, of_bytes, is_word}
use Rattle.saiga.specs.Expressions.{Expr, Whole, no_expression, expression, read_whole}
use Rattle.saiga.specs.Types.{attribute_at, infer}
use Rattle.saiga.specs.Gaps.{first_gap}
use Rattle.saiga.specs.Sheet.{Figure, Rule, Forward, Sheet, empty_sheet, node_count, attribute_count, figure_for, rule_for, forward_for, rule_scope, forward_scope, Definition, undefined, figure, piece_of, forward_of, forwarded, ruled, figured, definition, whole_expr, definition_expr, context, Command, attribute_command, node_command, figure_command, rule_command, forward_command, end_command, no_command, command_of, Read, stops◌at_offset◌, ends, goes_on, require, read_attribute, read_node, read_figure, require_piece, read_rule, read_forward, read_end, read_command, read_next, Checked, refused◌at_place◌, accepted, is_defined, defines, complete, read_commands, check_sheet}
use Rattle.saiga.specs.Sound.{ExprIn, literal∈, attribute∈, parameter∈, All, all_none, all_cons, ContextIn}
use Rattle.saiga.proofs.FourBytes.{word_in}
use Rattle.saiga.proofs.Inference.{has_type-sound}
use Rattle.saiga.proofs.Reading.{Wider, wider-reads, any-parameter, read-in}
use Rattle.saiga.proofs.Gaps.{gap-law}

pub record AcceptedSheet (s : Sheet) : Type 0 where
  pub nodes_bound : node_count s ≤ node_limit
  pub attributes_bound : attribute_count s ≤ attribute_limit
  pub context-in : ContextIn (node_count s) s.attributes (context s)

-- ---- The sheet so far

-- A definition is an expression of the attribute's type, on what the sheet declares.
abbrev Gives : Sheet → ℕ → Definition → Type 0
Gives s a d =
    ExprIn (rule_scope s) s.attributes (attribute_at s.attributes a).parameter-type (definition_expr s a d) (base (attribute_at s.attributes a).result)

-- A definition's bytes are one expression.
abbrev Reads : Sheet → Definition → Type 0
Reads s undefined = Unit {0}
Reads s (figure v) = Unit {0}
Reads s (piece_of p) = (e : Expr) × (read_whole (rule_scope s) p ≡ expression e)
Reads s (forward_of p) = (e : Expr) × (read_whole (forward_scope s) p ≡ expression e)

-- What holds of the sheet between two commands. Attributes and nodes are declared only up to the part of the nodes, where there is
-- no figure, no rule and no forward yet, so each of those was checked on all that is declared.
record SoFar (s : Sheet) (part : ℕ) : Type 0 where
  nodes_bound : node_count s ≤ node_limit
  attributes_bound : attribute_count s ≤ attribute_limit
  no-figures : part ≤ 1 → s.figures ≡ []
  no-rules : part ≤ 1 → s.rules ≡ []
  no-forwards : part ≤ 1 → s.forwards ≡ []
  figures-give : All (λ f. Gives s f.attribute (figure f.value)) s.figures
  rules-give : All (λ r. Gives s r.attribute (piece_of r.piece)) s.rules
  rules-read : All (λ r. Reads s (piece_of r.piece)) s.rules
  forwards-give : (a : ℕ) → a < attribute_count s → All (λ f. Gives s a (forward_of f.piece)) s.forwards
  forwards-read : All (λ f. Reads s (forward_of f.piece)) s.forwards

-- the stops of a sheet
abbrev StopNumber : ℕ → Type 0
StopNumber number = (1 ≤ number) × (number ≤ 8)

-- What reading one command comes to, where `room` bytes are left: a stop of the sheet's; or a width that is not zero and fits, and
-- a sheet of which the same holds.
abbrev Fit : Sheet → ℕ → ℕ → Read → Type 0
Fit s part room (stops number at_offset offset) = StopNumber number
Fit s part room ends = Unit {0}
Fit s part room (goes_on next) = (1 ≤ next.width) × (next.width ≤ room) × (SoFar s part → SoFar next.sheet next.part)

-- What follows a test may rest on it.
module _ (s : Sheet) (part room : ℕ) where
  require-fits : (b : Bool) (number : ℕ) (r : Read) → StopNumber number → (b ≡ true → Fit s part room r) → Fit s part room (require b number r)
  unfolding require
  require-fits true number r n f = f refl
  require-fits false number r n f = n

  require-piece-fits : (p t : Base) (w : Whole) (r : Read)
      → ((e : Expr) → w ≡ expression e → infer s.attributes p e ≡ some (base t) → Fit s part room r) → Fit s part room (require_piece s p t w r)
  unfolding require_piece
  require-piece-fits p t no_expression r f = omega arith
  require-piece-fits p t (expression e) r f = require-fits _ 7 r (omega arith) λ typed. f e refl (has_type-sound _ _ _ e typed)

  require-both-fits : (a b : Bool) (number : ℕ) (r : Read) → StopNumber number → (a ≡ true → b ≡ true → Fit s part room r)
      → Fit s part room (require (a && b) number r)
  require-both-fits a b number r n f = require-fits (a && b) number r n λ e. let t = (and-eq-true_iff a b).0 e in f t.0 t.1

-- the tests as facts, for `omega`
ruleset tests = (leb-true, ltb-true)

attribute-fits : (s : Sheet) (part : ℕ) (l : List ℕ) → Fit s part (suc (length l)) (read_attribute s part l)
unfolding read_attribute
attribute-fits s part l =
    require-both-fits s part _ (leb part 0) (leb 2 (length l)) 2 _ (omega arith) λ first long.
    require-fits s part _ (ltb (attribute_count s) attribute_limit) 3 _ (omega arith) λ room.
    require-fits s part _ _ 4 _ (omega arith) λ types. (
      omega arith,
      omega (arith, tests),
      λ h. record {
        nodes_bound = h.nodes_bound;
        attributes_bound = rw length-append (omega (arith, tests));
        no-figures = λ p. h.no-figures (omega (arith, tests));
        no-rules = λ p. h.no-rules (omega (arith, tests));
        no-forwards = λ p. h.no-forwards (omega (arith, tests));
        figures-give = rw (h.no-figures (omega (arith, tests))) all_none;
        rules-give = rw (h.no-rules (omega (arith, tests))) all_none;
        rules-read = rw (h.no-rules (omega (arith, tests))) all_none;
        forwards-give = λ a declared. rw (h.no-forwards (omega (arith, tests))) all_none;
        forwards-read = rw (h.no-forwards (omega (arith, tests))) all_none;
      },
    )

node-fits : (s : Sheet) (part : ℕ) (l : List ℕ) → Fit s part (suc (length l)) (read_node s part l)
unfolding read_node
node-fits s part l =
    require-both-fits s part _ (leb part 1) (leb 1 (length l)) 2 _ (omega arith) λ early long.
    require-fits s part _ (ltb (node_count s) node_limit) 3 _ (omega arith) λ room.
    require-fits s part _ _ 4 _ (omega arith) λ kind. (
      omega arith,
      omega (arith, tests),
      λ h. record {
        nodes_bound = rw length-append (omega (arith, tests));
        attributes_bound = h.attributes_bound;
        no-figures = λ p. h.no-figures (omega (arith, tests));
        no-rules = λ p. h.no-rules (omega (arith, tests));
        no-forwards = λ p. h.no-forwards (omega (arith, tests));
        figures-give = rw (h.no-figures (omega (arith, tests))) all_none;
        rules-give = rw (h.no-rules (omega (arith, tests))) all_none;
        rules-read = rw (h.no-rules (omega (arith, tests))) all_none;
        forwards-give = λ a declared. rw (h.no-forwards (omega (arith, tests))) all_none;
        forwards-read = rw (h.no-forwards (omega (arith, tests))) all_none;
      },
    )

figure_fits : (s : Sheet) (part : ℕ) (l : List ℕ) → Fit s part (suc (length l)) (read_figure s part l)
unfolding read_figure rule_scope forward_scope definition_expr
figure_fits s part l =
    let n = of_bytes (take 2 l) in
    let a = get_or l 2 0 in
    let w = of_bytes (take 4 (drop 3 l)) in
    let t = (attribute_at s.attributes a).result in
    require-both-fits s part _ (leb part 2) (leb 7 (length l)) 2 _ (omega arith) λ early long.
    require-both-fits s part _ (ltb n (node_count s) && ltb a (attribute_count s)) (is_word (node_count s) t w) 4 _ (omega arith) λ declared word.
    require-fits s part _ _ 5 _ (omega arith) λ new. (
      omega arith,
      omega (arith, tests),
      λ h. record {
        nodes_bound = h.nodes_bound;
        attributes_bound = h.attributes_bound;
        no-figures = λ p. absurd (omega arith);
        no-rules = λ p. absurd (omega arith);
        no-forwards = λ p. absurd (omega arith);
        figures-give = all_cons (literal∈ (word_in (node_count s) t w word)) h.figures-give;
        rules-give = h.rules-give;
        rules-read = h.rules-read;
        forwards-give = h.forwards-give;
        forwards-read = h.forwards-read;
      },
    )

-- the sheet with other rules and forwards
with-pieces : (s : Sheet) (rules : List Rule) (forwards : List Forward) (part : ℕ) → SoFar s part → All (λ r. Gives s r.attribute (piece_of r.piece)) rules
    → All (λ r. Reads s (piece_of r.piece)) rules → ((a : ℕ) → a < attribute_count s → All (λ f. Gives s a (forward_of f.piece)) forwards)
    → All (λ f. Reads s (forward_of f.piece)) forwards
    → SoFar record { attributes = s.attributes; kinds = s.kinds; figures = s.figures; rules = rules; forwards = forwards } 3
unfolding rule_scope forward_scope definition_expr
with-pieces s rules forwards part h rules-give rules-read forwards-give forwards-read = record {
  nodes_bound = h.nodes_bound;
  attributes_bound = h.attributes_bound;
  no-figures = λ p. absurd (omega arith);
  no-rules = λ p. absurd (omega arith);
  no-forwards = λ p. absurd (omega arith);
  figures-give = h.figures-give;
  rules-give = rules-give;
  rules-read = rules-read;
  forwards-give = forwards-give;
  forwards-read = forwards-read;
}

rule_fits : (s : Sheet) (part : ℕ) (l : List ℕ) → Fit s part (suc (length l)) (read_rule s part l)
unfolding read_rule rule_scope forward_scope definition_expr whole_expr
rule_fits s part l =
    let n = of_bytes (take 2 (drop 2 l)) in
    require-both-fits s part _ (leb part 3 && leb (4 + n) (length l)) (leb 4 (length l)) 2 _ (omega arith) λ fit long.
    require-fits s part _ _ 4 _ (omega arith) λ declared.
    require-fits s part _ _ 5 _ (omega arith) λ new.
    require-piece-fits s part _ _ _ _ _ λ e reads typed.
    let fits : 4 + n ≤ length l = leb-true (4 + n) (length l) ((and-eq-true_iff (leb part 3) (leb (4 + n) (length l))).0 fit).1 in (
      omega arith,
      omega arith,
      λ h. with-pieces s _ _ part h (all_cons (rw (reads, whole_expr) (read-in (rule_scope s) _ _ _ e _ refl reads typed)) h.rules-give) (all_cons (e, reads) h.rules-read)
          h.forwards-give h.forwards-read,
    )

-- What a forward may use, a rule may use.
pub forward-in-rule : (s : Sheet) → Wider (forward_scope s) (rule_scope s)
unfolding forward_scope rule_scope
forward-in-rule s = record { nodes = refl; attributes = refl; has-this = λ h. h; has-parameter = λ h. refl }

-- It is read in a rule's scope as it is in its own, and has its type with any type for 0x31.
forward-gives : (s : Sheet) (p : List ℕ) (e : Expr) → read_whole (forward_scope s) p ≡ expression e → infer s.attributes unit_t e ≡ some (base node_t)
    → (a : ℕ) → a < attribute_count s → Gives s a (forward_of p)
unfolding forward_scope rule_scope definition_expr whole_expr
forward-gives s p e reads typed a declared =
    let in-rule = wider-reads (forward_scope s) (rule_scope s) (forward-in-rule s) p e reads in
    let node = read-in (rule_scope s) s.attributes _ p e _ refl in-rule (sym (any-parameter (forward_scope s) s.attributes unit_t _ p e refl reads) ∙ typed) in
    rw (reads, whole_expr) (attribute∈ declared node (parameter∈ refl))

forward-fits : (s : Sheet) (part : ℕ) (l : List ℕ) → Fit s part (suc (length l)) (read_forward s part l)
unfolding read_forward rule_scope forward_scope definition_expr
forward-fits s part l =
    let n = of_bytes (take 2 (drop 1 l)) in
    require-both-fits s part _ _ (leb 3 (length l)) 2 _ (omega arith) λ fit long.
    require-fits s part _ _ 4 _ (omega arith) λ declared.
    require-fits s part _ _ 5 _ (omega arith) λ new.
    require-piece-fits s part _ _ _ _ _ λ e reads typed.
    let fits : 3 + n ≤ length l = leb-true (3 + n) (length l) ((and-eq-true_iff (leb part 3) (leb (3 + n) (length l))).0 fit).1 in (
      omega arith,
      omega arith,
      λ h. with-pieces s _ _ part h h.rules-give h.rules-read (λ a q. all_cons (forward-gives s _ e reads typed a q) (h.forwards-give a q))
          (all_cons (e, reads) h.forwards-read),
    )

end_fits : (s : Sheet) (part : ℕ) (l : List ℕ) → Fit s part (suc (length l)) (read_end l)
unfolding read_end
end_fits s part [] = tt
end_fits s part (b ∷ l) = omega arith

command-fits : (s : Sheet) (part : ℕ) (c : Command) (l : List ℕ) → Fit s part (suc (length l)) (read_command s part c l)
unfolding read_command
command-fits s part attribute_command l = attribute-fits s part l
command-fits s part node_command l = node-fits s part l
command-fits s part figure_command l = figure_fits s part l
command-fits s part rule_command l = rule_fits s part l
command-fits s part forward_command l = forward-fits s part l
command-fits s part end_command l = end_fits s part l
command-fits s part no_command l = omega arith

next_fits : (s : Sheet) (part : ℕ) (l : List ℕ) → Fit s part (length l) (read_next s part l)
unfolding read_next
next_fits s part [] = omega arith
next_fits s part (c ∷ l) = command-fits s part (command_of c) l

-- ---- The bound on the commands is never reached

pub commands-fuel : (k j : ℕ) (s : Sheet) (part at : ℕ) (l : List ℕ) → length l < k → length l < j → read_commands k s part at l ≡ read_commands j s part at l
unfolding read_commands
commands-fuel zero j s part at l p q = absurd (omega arith)
commands-fuel (suc k) zero s part at l p q = absurd (omega arith)
commands-fuel (suc k) (suc j) s part at l p q = go (commands-fuel k j) (read_next s part l) refl (next_fits s part l)
  where
    go : ((s' : Sheet) (part' at' : ℕ) (l' : List ℕ) → length l' < k → length l' < j → read_commands k s' part' at' l' ≡ read_commands j s' part' at' l')
        → (r : Read) → read_next s part l ≡ r → Fit s part (length l) r → read_commands (suc k) s part at l ≡ read_commands (suc j) s part at l
    go ih (stops number at_offset offset) e f = rw (e, read_commands)
    go ih ends e f = rw (e, read_commands)
    go ih (goes_on next) e f =
        rw (e, read_commands) (ih next.sheet next.part (at + next.width) (drop next.width l) (rw length-drop (omega arith)) (rw length-drop (omega arith)))

-- ---- The definition in force

-- whatever a look-up finds
abbrev Found : {A : Type 0} → (A → Type 0) → Option A → Type 0
Found P none = Unit {0}
Found P (some x) = P x

found : {A : Type 0} (P : ℕ → A → Type 0) (m n b a : ℕ) (x : A) (o : Option A) → P b x → Found (P a) o
    → Found (P a) (cond (eqb m n && eqb b a) (some x) o)
found P m n b a x o h rest = go (eqb m n && eqb b a) refl
  where
    go : (t : Bool) → (eqb m n && eqb b a) ≡ t → Found (P a) (cond t (some x) o)
    go true e = rw (eqb-true b a ((and-eq-true_iff (eqb m n) (eqb b a)).0 e).1) at h
    go false e = rest

-- What each figure and each rule gives its attribute, and each forward the attribute `a`, the definition in force gives `a`.
module _ (P : ℕ → Definition → Type 0) (a : ℕ) where
  figure-found : (n : ℕ) (l : List Figure) → All (λ f. P f.attribute (figure f.value)) l → Found (λ v. P a (figure v)) (figure_for l n a)
  unfolding figure_for
  figure-found n [] all_none = tt
  figure-found n (f ∷ l) (all_cons h t) = found (λ b v. P b (figure v)) f.node n f.attribute a f.value _ h (figure-found n l t)

  rule_found : (k : ℕ) (l : List Rule) → All (λ r. P r.attribute (piece_of r.piece)) l → Found (λ p. P a (piece_of p)) (rule_for l k a)
  unfolding rule_for
  rule_found k [] all_none = tt
  rule_found k (r ∷ l) (all_cons h t) = found (λ b p. P b (piece_of p)) r.kind k r.attribute a r.piece _ h (rule_found k l t)

  forward-found : (k : ℕ) (l : List Forward) → All (λ f. P a (forward_of f.piece)) l → Found (λ p. P a (forward_of p)) (forward_for l k)
  unfolding forward_for
  forward-found k [] all_none = tt
  forward-found k (f ∷ l) (all_cons h t) = go (eqb f.kind k) (forward-found k l t)
    where
      go : (b : Bool) → Found (λ p. P a (forward_of p)) (forward_for l k) → Found (λ p. P a (forward_of p)) (cond b (some f.piece) (forward_for l k))
      go true rest = h
      go false rest = rest

  in-force : (f : Option Value) (r w : Option (List ℕ)) → Found (λ v. P a (figure v)) f → Found (λ p. P a (piece_of p)) r → Found (λ p. P a (forward_of p)) w
      → is_defined (figured f (ruled r (forwarded w))) ≡ true → P a (figured f (ruled r (forwarded w)))
  unfolding figured ruled forwarded is_defined
  in-force (some v) r w g h i d = g
  in-force none (some p) w g h i d = h
  in-force none none (some p) g h i d = i
  in-force none none none g h i d = absurd (false≢true d)

-- ---- The verdict

abbrev Verdict : Checked Sheet → Type 0
Verdict (refused number at_place place) = StopNumber number
Verdict (accepted s) =
    AcceptedSheet s × ((k a : ℕ) → Found (λ p. Reads s (piece_of p)) (rule_for s.rules k a))
    × ((k : ℕ) → Found (λ p. Reads s (forward_of p)) (forward_for s.forwards k))
    × ((n a : ℕ) → n < node_count s → a < attribute_count s → is_defined (definition s n a) ≡ true)

-- Where the check finds no gap, every declared pair is defined.
no_gap : (s : Sheet) → first_gap (defines s) (node_count s) (attribute_count s) ≡ none → (n a : ℕ) → n < node_count s → a < attribute_count s
    → is_defined (definition s n a) ≡ true
no_gap s = (gap-law (defines s) (node_count s) (attribute_count s) none).0

complete-verdict : (s : Sheet) (part : ℕ) (o : Option ℕ) → first_gap (defines s) (node_count s) (attribute_count s) ≡ o → SoFar s part → Verdict (complete s o)
unfolding complete rule_scope context definition
complete-verdict s part (some place) e h = omega arith
complete-verdict s part none e h = (
  record {
    nodes_bound = h.nodes_bound;
    attributes_bound = h.attributes_bound;
    context-in = record {
      scope = rule_scope s;
      same_nodes = refl;
      defines = λ n a p q. in-force (Gives s) a _ _ _ (figure-found (Gives s) a n s.figures h.figures-give) (rule_found (Gives s) a _ s.rules h.rules-give)
          (forward-found (Gives s) a _ s.forwards (h.forwards-give a q)) (no_gap s e n a p q);
    };
  },
  λ k a. rule_found (λ b d. Reads s d) a k s.rules h.rules-read,
  λ k. forward-found (λ b d. Reads s d) 0 k s.forwards h.forwards-read,
  no_gap s e,
)

commands-verdict : (k : ℕ) (s : Sheet) (part at : ℕ) (l : List ℕ) → SoFar s part → Verdict (read_commands k s part at l)
unfolding read_commands
commands-verdict zero s part at l h = omega arith
commands-verdict (suc k) s part at l h = go (commands-verdict k) (read_next s part l) refl (next_fits s part l)
  where
    go : ((s' : Sheet) (part' at' : ℕ) (l' : List ℕ) → SoFar s' part' → Verdict (read_commands k s' part' at' l'))
        → (r : Read) → read_next s part l ≡ r → Fit s part (length l) r → Verdict (read_commands (suc k) s part at l)
    go ih (stops number at_offset offset) e f = rw (e, read_commands) f
    go ih ends e f = rw (e, read_commands) (complete-verdict s part _ refl h)
    go ih (goes_on next) e f =
        rw (e, read_commands) (ih next.sheet next.part (at + next.width) (drop next.width l) (f.2 h))

sheet-verdict : (bytes : List ℕ) → Verdict (check_sheet bytes)
unfolding check_sheet
sheet-verdict bytes = go (leb (length bytes) sheet_limit)
  where
    go : (b : Bool) → Verdict (cond b (read_commands (suc (length bytes)) empty_sheet 0 0 bytes) (refused 1 at_place 0))
    go true = commands-verdict (suc (length bytes)) empty_sheet 0 0 bytes
        (record { nodes_bound = omega arith; attributes_bound = omega arith; no-figures = λ p. refl; no-rules = λ p. refl; no-forwards = λ p. refl; figures-give = all_none; rules-give = all_none; rules-read = all_none; forwards-give = λ a declared. all_none; forwards-read = all_none })
    go false = omega arith

pub accepted-sheet : (bytes : List ℕ) (s : Sheet) → check_sheet bytes ≡ accepted s → AcceptedSheet s
accepted-sheet bytes s e = (subst Verdict e (sheet-verdict bytes)).0

-- every rule of an accepted sheet is one expression
pub rule-reads : (bytes : List ℕ) (s : Sheet) → check_sheet bytes ≡ accepted s → (k a : ℕ) (p : List ℕ) → rule_for s.rules k a ≡ some p
    → (e : Expr) × (read_whole (rule_scope s) p ≡ expression e)
rule-reads bytes s e k a p f = subst (Found (λ p. Reads s (piece_of p))) f ((subst Verdict e (sheet-verdict bytes)).1 k a)

-- and so is every forward
pub forward-reads : (bytes : List ℕ) (s : Sheet) → check_sheet bytes ≡ accepted s → (k : ℕ) (p : List ℕ) → forward_for s.forwards k ≡ some p
    → (e : Expr) × (read_whole (forward_scope s) p ≡ expression e)
forward-reads bytes s e k p f = subst (Found (λ p. Reads s (forward_of p))) f ((subst Verdict e (sheet-verdict bytes)).2 k)

-- an accepted sheet defines every declared pair
pub pair-defined : (bytes : List ℕ) (s : Sheet) → check_sheet bytes ≡ accepted s → (n a : ℕ) → n < node_count s → a < attribute_count s
    → is_defined (definition s n a) ≡ true
pair-defined bytes s e = (subst Verdict e (sheet-verdict bytes)).3

pub refused-numbers : (bytes : List ℕ) (number place : ℕ) → check_sheet bytes ≡ refused number at_place place → (1 ≤ number) × (number ≤ 8)
refused-numbers bytes number place e = subst Verdict e (sheet-verdict bytes)
