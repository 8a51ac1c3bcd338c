-- Circles in plain Saiga (F-9 of document 02): "a question runs for ever exactly if some occurrence comes due inside its own evaluation".
use Rattle.std.specs.Prelude.{List, ◌⊎◌, ◌≡◌, ℕ}
use Rattle.std.specs.Prelude.{Some as some}
use Rattle.saiga.specs.Values.{Value, null, node_of}
use Rattle.saiga.specs.Expressions.{Expr}
use Rattle.saiga.specs.Terms.{Occurrence, Term, val, cond, app, attr, put}
use Rattle.saiga.specs.Sheet.{Sheet, context, accepted, check_sheet}
use Rattle.saiga.specs.Plain.{Plain, steps_to, plain_step, plain_at, RunsForEver}
use Rattle.saiga.specs.Ask.{asked, check_question}
use Rattle.saiga.specs.Demand3.{PlainEnding, PlainEnds}

-- ---- The part that is stepped next

-- An expression with a gap at the part that is stepped next (001, figures 6 and 8: CondLeft, AppLeft, AppRight, AttrLeft, AttrRight).
pub data Around : Type 0 where
  whole : Around
  in_condition : Around → Plain → Plain → Around
  in_function : Around → Plain → Around
  in_argument : Value → Around → Around
  in_node : Around → ℕ → Plain → Around
  in_parameter : Value → ℕ → Around → Around

-- the expression with a part in its gap
unfoldable pub fill : Around → Plain → Plain
fill whole p = p
fill (in_condition around t e) p = cond (fill around p) t e
fill (in_function around x) p = app (fill around p) x
fill (in_argument v around) p = app (val v) (fill around p)
fill (in_node around a x) p = attr (fill around p) a x
fill (in_parameter v a around) p = attr (val v) a (fill around p)

-- AttrApp is due on an occurrence at an expression, at the whole or at the part that is stepped next. Null is no occurrence.
pub record DueOn (o : Occurrence) (t : Plain) : Type 0 where
  pub around : Around
  pub on : Value
  pub node-of : node_of on ≡ o.node
  pub no_null : o.node ≡ null → ⊥
  pub stands : t ≡ fill around (attr (val on) o.attribute (val o.parameter))

-- ---- The claim

module _ (context : ℕ → ℕ → Expr) where
  -- σ(n, a, v), which takes the place of the part
  abbrev pub σ : {F : Type 0} → Occurrence → Term F
  σ o = put o.node o.parameter (context o.node o.attribute)

  -- An occurrence comes due in the plain run of an expression.
  pub record ComesDue (t : Plain) (o : Occurrence) : Type 0 where
    pub count : ℕ
    pub there : Plain
    pub comes : plain_at context count t ≡ some there
    pub due : DueOn o there

  -- An occurrence comes due inside its own evaluation: it comes due in the run of the question, and again in the run of its own σ(n, a, v).
  pub record CircleIn (t : Plain) : Type 0 where
    pub occurrence : Occurrence
    pub due : ComesDue t occurrence
    pub again : ComesDue (σ occurrence) occurrence

  -- That this is "inside": a part is stepped inside the whole as it is alone, so the second AttrApp is due at the part whose place σ took.
  pub record AsAlone : Type 0 where
    pub part : (around : Around) (n : ℕ) (p p' : Plain) → plain_at context n p ≡ some p' → plain_at context n (fill around p) ≡ some (fill around p')
    pub opened : {o : Occurrence} {t : Plain} (d : DueOn o t) → plain_step context t ≡ steps_to (fill d.around (σ o))
    pub due_inside : (around : Around) {o : Occurrence} {p : Plain} → DueOn o p → DueOn o (fill around p)

-- Of every accepted question of an accepted sheet: it runs for ever exactly if it has a circle, and it ends if it has none.
pub record OfQuestion (s : Sheet) (e : Expr) : Type 0 where
  pub circle : RunsForEver (context s) (asked e) → CircleIn (context s) (asked e)
  pub for_ever : CircleIn (context s) (asked e) → RunsForEver (context s) (asked e)
  pub ends_or_circle : ((ending : PlainEnding) × (n : ℕ) × PlainEnds s e ending n) ⊎ CircleIn (context s) (asked e)
  pub inside : AsAlone (context s)

abbrev pub PlainCircles : Type 0
PlainCircles =
    (sheet : List ℕ) (s : Sheet) → check_sheet sheet ≡ accepted s → (question : List ℕ) (e : Expr) → check_question s question ≡ accepted e
    → OfQuestion s e
