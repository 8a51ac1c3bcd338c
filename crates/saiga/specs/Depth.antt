-- When stops 20 and 16 are due (document 01, "Stops by origin"; F-8 and F-9 of document 02): a law of AttrApp.
use Rattle.std.specs.Prelude.{Bool, true, false, List, ◌≡◌, ℕ, ◌≤◌, ◌<◌, length}
use Rattle.std.specs.Prelude.{None as none, Some as some}
use Rattle.saiga.specs.Limits.{depth_limit}
use Rattle.saiga.specs.Values.{Value, null}
use Rattle.saiga.specs.Expressions.{Expr}
use Rattle.saiga.specs.Terms.{Occurrence, val, form, put}
use Rattle.saiga.specs.Plain.{on_null}
use Rattle.saiga.specs.Caching.{Entry, kept, write, AttrApp, as_plain, circle, spent, depth, counts, writes, halts, is_open, circular, attr_app, due}

-- AttrApp of an occurrence of a node inside any forms, with whatever is kept and for any context.
module _ (context : ℕ → ℕ → Expr) (s : List Entry) (os : List Occurrence) (o : Occurrence) where
  -- "AttrApp on a kept occurrence goes through with 64 open and counts its one step": its form is ended at once, by a CacheWrite that
  -- changes nothing.
  pub record GoesThrough (v : Value) : Type 0 where
    pub counts_one : attr_app context s true os o ≡ counts (AttrApp o.attribute) (form o (val v))
    pub ended : (b : Bool) → due context s b os (form o (val v)) ≡ writes record { occurrence = o; value = v } (val v)
    pub unchanged : (capacity : ℕ) → write capacity s record { occurrence = o; value = v } ≡ s

  -- "AttrApp is due on an occurrence that is open and not kept": 20, with budget or without, however many forms are open. Otherwise the budget comes
  -- first, and then "stop 16 is given only when the occurrence due is not kept", inside 64 forms or more.
  pub record DepthDue : Type 0 where
    pub by_kept : (v : Value) → kept s o ≡ some v → GoesThrough v
    pub in_circle : kept s o ≡ none → is_open os o ≡ true → (b : Bool) → attr_app context s b os o ≡ halts circle
    pub by_budget : circular s os o ≡ false → attr_app context s false os o ≡ halts spent
    pub inside : kept s o ≡ none → is_open os o ≡ false → depth_limit ≤ length os → attr_app context s true os o ≡ halts depth
    pub outside : kept s o ≡ none → is_open os o ≡ false → length os < depth_limit
        → attr_app context s true os o ≡ counts (AttrApp o.attribute) (form o (put o.node o.parameter (context o.node o.attribute)))

abbrev pub DepthLaw : Type 0
DepthLaw =
    (context : ℕ → ℕ → Expr) (s : List Entry) (os : List Occurrence) (o : Occurrence) → (o.node ≡ null → ⊥) → DepthDue context s os o

-- "Tested after 14": on null AttrApp ends the run, whatever forms are open, and with budget or without.
abbrev pub NullFirst : Type 0
NullFirst =
    (context : ℕ → ℕ → Expr) (s : List Entry) (b : Bool) (os : List Occurrence) (o : Occurrence) → o.node ≡ null
    → attr_app context s b os o ≡ halts (as_plain on_null)
