-- The readers, by the laws of Literals.antt and Composites.antt for the form and those of Noting.antt for the notes.
use Rattle.std.proofs.Common.{arith, refl, sym, ap, ◌∙◌, is_some}
use Rattle.saiga.specs.Expressions.{head_of}
use Rattle.saiga.specs.Values.{base, base_of}
use Rattle.expressions.specs.Forms.{parameter_type}
use Rattle.expressions.proofs.Composites.{form-taken, if-stops, if-stops-then, if-stops-else, if-reads, application-stops, application-stops-argument, application-reads, attribute-short, attribute-undeclared, attribute-stops, attribute-stops-parameter, attribute-reads, read-no-head, read-nothing}
use Rattle.expressions.proofs.Noting.{own-notes, two-noted, three-noted, node-noted, operand-arm, inner-arm, attribute-arm}
use Rattle.expressions.proofs.Literals.{this-reads, this-refused, parameter-reads, parameter-refused}
use Rattle.values.proofs.Attributes.{attributes-count}
use Rattle.expressions.proofs.+reading.Goals as goal

-- ---- read

pub read-overflow_sub-notes : goal.read-overflow_sub-notes
read-overflow_sub-notes t c = omega (arith, form-taken _ _ _ _ c.in_ok-form.ensures.formed)

pub read-overflow_cast-notes : goal.read-overflow_cast-notes
read-overflow_cast-notes t c = omega (arith, form-taken _ _ _ _ c.in_ok-form.ensures.formed)

pub read-bounds-notes-at : goal.read-bounds-notes-at
read-bounds-notes-at t c = omega (arith, form-taken _ _ _ _ c.in_ok-form.ensures.formed)

pub read-returns-clause-taken : goal.read-returns-clause-taken
read-returns-clause-taken t c = form-taken _ _ _ _ c.in_ok-form.ensures.formed

pub read-returns-clause-notes : goal.read-returns-clause-notes
read-returns-clause-notes t c = own-notes _ _ _ _ _ _ _ _ c.in_ok-form.ensures.formed c.in_ok-form.ensures.notes_behind (omega (arith, form-taken _ _ _ _ c.in_ok-form.ensures.formed))

-- ---- read_if

pub read_if-returns-in_err-c-clause-formed : goal.read_if-returns-in_err-c-clause-formed
read_if-returns-in_err-c-clause-formed t c k h = rw c.from_residual.ensures (if-stops _ _ _ _ k h c.in_err-c.ensures.formed)

pub read_if-returns-in_err-t-clause-formed : goal.read_if-returns-in_err-t-clause-formed
read_if-returns-in_err-t-clause-formed t c k h = rw c.from_residual-in_err-t.ensures (if-stops-then _ _ _ _ k h c.in_ok-c.ensures.formed c.in_err-t.ensures.formed)

pub read_if-returns-in_err-e-clause-formed : goal.read_if-returns-in_err-e-clause-formed
read_if-returns-in_err-e-clause-formed t c k h =
    rw c.from_residual-in_err-e.ensures (if-stops-else _ _ _ _ k h c.in_ok-c.ensures.formed c.in_ok-t.ensures.formed c.in_err-e.ensures.formed)

pub read_if-returns-clause-formed : goal.read_if-returns-clause-formed
read_if-returns-clause-formed t c k h = if-reads _ _ _ _ k h c.in_ok-c.ensures.formed c.in_ok-t.ensures.formed c.in_ok-e.ensures.formed c.if_type.ensures

pub read_if-returns-clause-notes_inside : goal.read_if-returns-clause-notes_inside
read_if-returns-clause-notes_inside t c = three-noted _ _ c.in_ok-c.ensures.notes c.in_ok-t.ensures.notes c.in_ok-e.ensures.notes

-- ---- read_application

pub read_application-returns-in_err-f-clause-formed : goal.read_application-returns-in_err-f-clause-formed
read_application-returns-in_err-f-clause-formed t c k h = rw c.from_residual.ensures (application-stops _ _ _ _ k h c.in_err-f.ensures.formed)

pub read_application-returns-in_err-x-clause-formed : goal.read_application-returns-in_err-x-clause-formed
read_application-returns-in_err-x-clause-formed t c k h =
    rw c.from_residual-in_err-x.ensures (application-stops-argument _ _ _ _ k h c.in_ok-f.ensures.formed c.in_err-x.ensures.formed)

pub read_application-returns-clause-formed : goal.read_application-returns-clause-formed
read_application-returns-clause-formed t c k h = application-reads _ _ _ _ k h c.in_ok-f.ensures.formed c.in_ok-x.ensures.formed c.application_type.ensures

pub read_application-returns-clause-notes_inside : goal.read_application-returns-clause-notes_inside
read_application-returns-clause-notes_inside t c = two-noted _ _ c.in_ok-f.ensures.notes c.in_ok-x.ensures.notes

-- ---- read_attribute

pub read_attribute-returns-in_err-a-clause-formed : goal.read_attribute-returns-in_err-a-clause-formed
read_attribute-returns-in_err-a-clause-formed t c k h = rw c.from_residual.ensures (attribute-short _ _ _ _ k c.in_err-a.ensures.cases)

pub read_attribute-returns-then-scope-a-clause-formed : goal.read_attribute-returns-then-scope-a-clause-formed
read_attribute-returns-then-scope-a-clause-formed t c = rw c.in_ok-a.ensures.cases.0 λ k h. attribute-undeclared _ _ _ _ _ k h c.if-scope-a.true

pub read_attribute-returns-in_err-n-clause-formed : goal.read_attribute-returns-in_err-n-clause-formed
read_attribute-returns-in_err-n-clause-formed t c =
    rw (c.in_ok-a.ensures.cases.0, c.from_residual-in_err-n.ensures) λ k h. attribute-stops _ _ _ _ _ k h c.if-scope-a.false c.in_err-n.ensures.formed

pub read_attribute-returns-in_err-x-clause-formed : goal.read_attribute-returns-in_err-x-clause-formed
read_attribute-returns-in_err-x-clause-formed t c =
    rw (c.in_ok-a.ensures.cases.0, c.from_residual-in_err-x.ensures) λ k h.
    attribute-stops-parameter _ _ _ _ _ k h c.if-scope-a.false c.in_ok-n.ensures.formed c.in_err-x.ensures.formed

pub read_attribute-returns-clause-formed : goal.read_attribute-returns-clause-formed
read_attribute-returns-clause-formed t c =
    rw c.in_ok-a.ensures.cases.0 λ k h.
    attribute-reads _ _ _ _ _ k h c.if-scope-a.false (attributes-count _ _) c.in_ok-n.ensures.formed c.in_ok-x.ensures.formed c.attribute_type.ensures

pub read_attribute-returns-clause-notes_inside : goal.read_attribute-returns-clause-notes_inside
read_attribute-returns-clause-notes_inside t c = rw c.in_ok-a.ensures.cases.0 (node-noted _ _ c.in_ok-n.ensures.notes c.in_ok-x.ensures.notes)

-- ---- read_by_head

pub read_by_head-returns-in_err-head-clause-formed : goal.read_by_head-returns-in_err-head-clause-formed
read_by_head-returns-in_err-head-clause-formed t c = rw c.from_residual.ensures (read-nothing _ _ _ _ c.in_err-head.ensures.cases)

pub read_by_head-read_literal-requires : goal.read_by_head-read_literal-requires
unfolding base_of
read_by_head-read_literal-requires t c = refl

pub read_by_head-returns-in-16 : goal.read_by_head-returns-in-16
unfolding head_of base_of
read_by_head-returns-in-16 t c = operand-arm _ _ _ _ _ _ c.in_ok-head.ensures.cases.0 0x10 c.in-16.is (λ k h. c.read_literal.ensures _ _ _ k refl) refl

pub read_by_head-read_literal-requires-in-17 : goal.read_by_head-read_literal-requires-in-17
unfolding base_of
read_by_head-read_literal-requires-in-17 t c = refl

pub read_by_head-returns-in-17 : goal.read_by_head-returns-in-17
unfolding head_of base_of
read_by_head-returns-in-17 t c = operand-arm _ _ _ _ _ _ c.in_ok-head.ensures.cases.0 0x11 c.in-17.is (λ k h. c.read_literal-in-17.ensures _ _ _ k refl) refl

pub read_by_head-read_literal-requires-in-18 : goal.read_by_head-read_literal-requires-in-18
unfolding base_of
read_by_head-read_literal-requires-in-18 t c = refl

pub read_by_head-returns-in-18 : goal.read_by_head-returns-in-18
unfolding head_of base_of
read_by_head-returns-in-18 t c = operand-arm _ _ _ _ _ _ c.in_ok-head.ensures.cases.0 0x12 c.in-18.is (λ k h. c.read_literal-in-18.ensures _ _ _ k refl) refl

pub read_by_head-read_literal-requires-in-19 : goal.read_by_head-read_literal-requires-in-19
unfolding base_of
read_by_head-read_literal-requires-in-19 t c = refl

pub read_by_head-returns-in-19 : goal.read_by_head-returns-in-19
unfolding head_of base_of
read_by_head-returns-in-19 t c = operand-arm _ _ _ _ _ _ c.in_ok-head.ensures.cases.0 0x13 c.in-19.is (λ k h. c.read_literal-in-19.ensures _ _ _ k refl) refl

pub read_by_head-returns-in-20 : goal.read_by_head-returns-in-20
unfolding head_of
read_by_head-returns-in-20 t c = operand-arm _ _ _ _ _ _ c.in_ok-head.ensures.cases.0 0x14 c.in-20.is (λ k h. c.read_function.ensures _ _ _ k) refl

pub read_by_head-returns-in-32 : goal.read_by_head-returns-in-32
unfolding head_of
read_by_head-returns-in-32 t c = inner-arm _ _ _ _ _ _ c.in_ok-head.ensures.cases.0 0x20 c.in-32.is c.read_if.ensures.formed refl c.read_if.ensures.notes_inside

pub read_by_head-returns-in-33 : goal.read_by_head-returns-in-33
unfolding head_of
read_by_head-returns-in-33 t c =
    inner-arm _ _ _ _ _ _ c.in_ok-head.ensures.cases.0 0x21 c.in-33.is c.read_application.ensures.formed refl c.read_application.ensures.notes_inside

pub read_by_head-returns-in-34 : goal.read_by_head-returns-in-34
unfolding head_of
read_by_head-returns-in-34 t c =
    attribute-arm _ _ _ _ _ _ c.in_ok-head.ensures.cases.0 0x22 c.in-34.is c.read_attribute.ensures.formed refl c.read_attribute.ensures.notes_inside

pub read_by_head-returns-then-scope : goal.read_by_head-returns-then-scope
unfolding head_of
read_by_head-returns-then-scope t c = operand-arm _ _ _ _ _ _ c.in_ok-head.ensures.cases.0 0x30 c.in-48.is (λ k h. this-reads _ _ _ _ _ c.if-scope.true) refl

pub read_by_head-returns-else-scope : goal.read_by_head-returns-else-scope
unfolding head_of
read_by_head-returns-else-scope t c = operand-arm _ _ _ _ _ _ c.in_ok-head.ensures.cases.0 0x30 c.in-48.is (λ k h. this-refused _ _ _ _ _ c.if-scope.false) refl

pub read_by_head-returns-in_err-p-in-49 : goal.read_by_head-returns-in_err-p-in-49
unfolding head_of
read_by_head-returns-in_err-p-in-49 t c =
    rw c.from_residual-in_err-p-in-49.ensures (operand-arm _ _ _ _ _ _ c.in_ok-head.ensures.cases.0 0x31 c.in-49.is (λ k h. parameter-refused _ _ _ _ _ (ap is_some c.in_err-p-in-49.was)) refl)

pub read_by_head-returns-in_ok-p-in-49 : goal.read_by_head-returns-in_ok-p-in-49
unfolding head_of
read_by_head-returns-in_ok-p-in-49 t c =
    operand-arm _ _ _ _ _ _ c.in_ok-head.ensures.cases.0 0x31 c.in-49.is (λ k h. parameter-reads _ _ _ _ _ (ap is_some c.in_ok-p-in-49.was) (c.from.ensures ∙ ap (λ o. base (parameter_type o)) (sym c.in_ok-p-in-49.was))) refl

pub read_by_head-returns-in_default-clause-formed : goal.read_by_head-returns-in_default-clause-formed
read_by_head-returns-in_default-clause-formed t c = rw c.in_ok-head.ensures.cases.0 (read-no-head _ _ _ _ _ (search))
