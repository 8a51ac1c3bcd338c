-- An index over keys: the walk of a key comes to the entry that has it, after 16 others at most.
use mathlib.Core.Bool.{Bool, true, false, cond}
use mathlib.Core.List.{List}
use mathlib.Core.Path.{◌≡◌, refl, sym, ◌∙◌, ap}
use Prim.Native.Nat.{ℕ, zero, suc, ◌+◌, ◌-◌, ◌/◌, ◌%◌, ◌≤◌, ◌<◌}
use native.Mathlib.Nat.{mod-lt}
use native.Mathlib.Numerals.{add-one}
use native.Mathlib.Omega.{arith}
use lib.Dec.{eqb, leb, lit<}
use lib.ListN.{length, get_or, set, length-set}
use lib.Seq.{get_or-set_same, get_or-set_other}
use borrow.Author.Tests.{eqb-true, eqb-false, eq-eqb, ne_eqb, leb-true, leb-false}
use Rattle.values.specs.Cells.{emptied}
use Rattle.values.proofs.Cells.{emptied-length, emptied-inside, emptied-outside}
use Rattle.stores.specs.declared.Key.{Key}
use Rattle.stores.specs.Walks.{bucket_count, fan_out, first_cell, cell_of, bucket_of, Keyed, key_digits, trail_of, rest_after, digit_at, Agree, walk, Passes, Free, First, Below, Trie, planted}
use Rattle.stores.specs.declared.Seen.{Seen}
use Rattle.stores.specs.declared.Seen.TheVariants.{Empty, Has, Other}
use Rattle.stores.specs.Keys.{same_key, seen_in, other_in}
use Rattle.stores.proofs.Searches.{same-key, other_key}
use Rattle.stores.proofs.Digits.{same-trail}

-- ---- What is seen at a cell that holds n

-- The code's tests of it.
module _ (n m : ℕ) (is : m ≡ n) where
  pub other-empty : m ≡ 0 → Empty ≡ other_in n
  unfolding other_in
  other-empty e = rw (← is, e) refl

  pub looks-empty : (keys : ℕ → Key) (q : Key) → m ≡ 0 → Empty ≡ seen_in keys q n
  unfolding seen_in
  looks-empty keys q e = rw (← is, e) refl

  module _ (more : m ≡ 0 → ⊥) where
    entry : n ≡ suc (m - 1)
    entry = omega (arith, is, more)

    pub other_entry : Other (m - 1) ≡ other_in n
    unfolding other_in
    other_entry = rw entry refl

    module _ (keys : ℕ → Key) (q : Key) {has : Bool} (key : has ≡ same_key (keys (m - 1)) q) where
      pub looks-has : has ≡ true → Has (m - 1) ≡ seen_in keys q n
      unfolding seen_in
      looks-has e = rw (entry, ← key, e) refl

      pub looks-other : has ≡ false → Other (m - 1) ≡ seen_in keys q n
      unfolding seen_in
      looks-other e = rw (entry, ← key, e) refl

module _ (keys : ℕ → Key) (q : Key) where
  abbrev Shows : ℕ → Seen → Type 0
  Shows n Empty = n ≡ 0
  Shows n (Has j) = (n ≡ suc j) × (keys j ≡ q)
  Shows n (Other j) = (n ≡ suc j) × (keys j ≡ q → ⊥)

  shows : (n : ℕ) → Shows n (seen_in keys q n)
  unfolding seen_in
  shows zero = refl
  shows (suc j) = go (same_key (keys j) q) refl
    where
      go : (b : Bool) → same_key (keys j) q ≡ b → Shows (suc j) (cond b (Has j) (Other j))
      go true e = (refl, same-key _ _ e)
      go false e = (refl, other_key _ _ e)

  -- Where none of the first k entries has the key, each is another's.
  pub others-seen : (k : ℕ) → ((j : ℕ) → j < k → keys j ≡ q → ⊥) → (n : ℕ) → n ≤ k → other_in n ≡ seen_in keys q n
  unfolding seen_in other_in
  others-seen k none_has zero h = refl
  others-seen k none_has (suc j) h = rw (differs (same_key (keys j) q) refl) refl
    where
      differs : (b : Bool) → same_key (keys j) q ≡ b → same_key (keys j) q ≡ false
      differs true e = absurd (none_has j (omega arith) (same-key _ _ e))
      differs false e = e

  pub empty-seen : (n : ℕ) → seen_in keys q n ≡ Empty → n ≡ 0
  empty-seen n e = rw e at (shows n)

  pub has-seen : (n j : ℕ) → seen_in keys q n ≡ Has j → (n ≡ suc j) × (keys j ≡ q)
  has-seen n j e = rw e at (shows n)

  pub other-seen : (n j : ℕ) → seen_in keys q n ≡ Other j → (n ≡ suc j) × (keys j ≡ q → ⊥)
  other-seen n j e = rw e at (shows n)

-- ---- The walk of a key

-- The search of the code stands at a cell: the walk passed so many entries, none of which has the key.
pub record Searching (keys : ℕ → Key) (index : List ℕ) (q : Key) (cell rest passed : ℕ) : Type 0 where
  pub within : passed ≤ key_digits
  pub passes : Passes index q passed
  pub at-cell : cell ≡ walk index q passed
  pub left : rest ≡ rest_after (trail_of q) passed
  pub others : (e j : ℕ) → e < passed → get_or index (walk index q e) 0 ≡ suc j → keys j ≡ q → ⊥

pub search-starts : (keys : ℕ → Key) (index : List ℕ) (q : Key) (b : ℕ) → b ≡ bucket_of q → Searching keys index q b (trail_of q) 0
unfolding walk rest_after
search-starts keys index q b e =
    record { within = omega arith; passes = λ e h. absurd (omega arith); at-cell = e; left = refl; others = λ e j h. absurd (omega arith) }

walk_start : (index : List ℕ) (q : Key) → walk index q 0 ≡ bucket_of q
unfolding walk
walk_start index q = refl

walk_more : (index : List ℕ) (q : Key) (d : ℕ) → walk index q (suc d) ≡ cell_of (get_or index (walk index q d) 0 - 1) (digit_at (trail_of q) d)
unfolding walk
walk_more index q d = refl

bucket-small : (q : Key) → bucket_of q < bucket_count
unfolding bucket_of
bucket-small q = mod-lt _ (lit< tt)

-- a walk that is longer passes what a shorter one does
shorter : (index : List ℕ) (q : Key) (d : ℕ) → Passes index q (suc d) → Passes index q d
shorter index q d p e h = p e (omega arith)

digit-small : (n d : ℕ) → digit_at n d < fan_out
digit-small n d = mod-lt _ (lit< tt)

module _ (keys : ℕ → Key) (limit k : ℕ) (index : List ℕ) (l : Trie keys limit k index) (q : Key) where
  -- Its cells are buckets, or of entries that are kept.
  pub walk-small : (d : ℕ) → Passes index q d → walk index q d < first_cell k
  walk-small zero p = rw walk_start (omega (arith, bucket-small q))
  walk-small (suc d) p =
      let some-entry = p d (omega arith) in
      let kept = l.within (walk index q d) (walk-small d (shorter index q d p)) in
      rw (walk_more index q d) (omega (arith, some-entry, kept, digit-small (trail_of q) d))

  -- The entry at its end has its depth, its bucket, and the digits of the key up to there.
  record Met (d j : ℕ) : Type 0 where
    depth : l.depth j ≡ d
    bucket : bucket_of (keys j) ≡ bucket_of q
    agree : Agree (trail_of (keys j)) (trail_of q) d

  walk_meets : (d j : ℕ) → Passes index q d → get_or index (walk index q d) 0 ≡ suc j → Met d j
  walk_meets zero j p e =
      let first = l.heads (bucket_of q) j (bucket-small q) (rw walk_start at e) in
      record { depth = first.no_deeper; bucket = first.bucket; agree = λ e h. absurd (omega arith) }
  walk_meets (suc d) j p e =
      let i = get_or index (walk index q d) 0 - 1 in
      let some-entry = p d (omega arith) in
      let is : get_or index (walk index q d) 0 ≡ suc i = omega arith in
      let kept = l.within (walk index q d) (walk-small d (shorter index q d p)) in
      let above = walk_meets d i (shorter index q d p) is in
      let hangs = l.below i (digit_at (trail_of q) d) j (omega arith) (digit-small (trail_of q) d) (rw (walk_more index q d) at e) in
      record { depth = hangs.deeper ∙ ap suc above.depth; bucket = hangs.bucket ∙ above.bucket; agree = both above hangs }
    where
      both : {i : ℕ} → Met d i → Below keys l.depth i (digit_at (trail_of q) d) j → Agree (trail_of (keys j)) (trail_of q) (suc d)
      both above hangs e h = go (eqb e d) refl
        where
          go : (b : Bool) → eqb e d ≡ b → digit_at (trail_of (keys j)) e ≡ digit_at (trail_of q) e
          go true t = rw (eqb-true e d t, ← above.depth) (hangs.next ∙ ap (digit_at (trail_of q)) (sym above.depth))
          go false t = let other = eqb-false e d t in hangs.agree e (rw above.depth (omega arith)) ∙ above.agree e (omega arith)

  -- ---- The search

  module _ (cell rest passed : ℕ) (at : Searching keys index q cell rest passed) where
    pub cell-small : cell < first_cell k
    cell-small = rw at.at-cell (walk-small passed at.passes)

    -- An empty cell: an entry with the key would be passed, or stand here.
    pub search-ends : get_or index cell 0 ≡ 0 → (j : ℕ) → j < k → keys j ≡ q → ⊥
    search-ends empty j h has = go (leb passed (l.depth j)) refl
      where
        here : get_or index (walk index q passed) 0 ≡ 0
        here = rw at.at-cell at empty

        stands : get_or index (walk index q (l.depth j)) 0 ≡ suc j
        stands = rw has at (l.reached j h)

        on : Passes index q (l.depth j)
        on = rw has at (l.passes j h)

        deeper : (t : Bool) → eqb passed (l.depth j) ≡ t → passed ≤ l.depth j → ⊥
        deeper true t below = let same = eqb-true passed (l.depth j) t in let z = rw same at here in omega (arith, stands, z)
        deeper false t below = let other = eqb-false passed (l.depth j) t in let more = on passed (omega arith) in omega (arith, more, here)

        go : (t : Bool) → leb passed (l.depth j) ≡ t → ⊥
        go true t = deeper (eqb passed (l.depth j)) refl (leb-true _ _ t)
        go false t = at.others (l.depth j) j (leb-false _ _ t) stands has

    module _ (j : ℕ) (stands : get_or index cell 0 ≡ suc j) where
      here-stands : get_or index (walk index q passed) 0 ≡ suc j
      here-stands = rw at.at-cell at stands

      pub entry-below : j < k
      entry-below = let kept = l.within cell cell-small in omega (arith, kept, stands)

      -- An entry with another key differs from it in a digit, so that digits are left.
      pub search-goes-on : Keyed q → (keys j ≡ q → ⊥) → Searching keys index q (cell_of j (rest % 8)) (rest / 8) (suc passed)
      unfolding walk rest_after
      search-goes-on keyed differs =
          record {
            within = omega (arith, not_last, at.within);
            passes = λ d h. passes_on d h (eqb d passed) refl;
            at-cell = let entry : j ≡ get_or index (walk index q passed) 0 - 1 = omega (arith, here-stands) in rw (entry, at.left) refl;
            left = ap (λ r. r / 8) at.left;
            others = λ d i h. others-on d i h (eqb d passed) refl;
          }
        where
          not_last : passed ≡ key_digits → ⊥
          not_last last =
              let met = walk_meets passed j at.passes here-stands in
              differs (same-trail _ q (l.keyed j entry-below) keyed met.bucket (rw last at met.agree))

          passes_on : (d : ℕ) → d < suc passed → (b : Bool) → eqb d passed ≡ b → 0 < get_or index (walk index q d) 0
          passes_on d h true b = rw (eqb-true d passed b) (omega (arith, here-stands))
          passes_on d h false b = let other = eqb-false d passed b in at.passes d (omega arith)

          others-on : (d i : ℕ) → d < suc passed → (b : Bool) → eqb d passed ≡ b → get_or index (walk index q d) 0 ≡ suc i → keys i ≡ q → ⊥
          others-on d i h true b found has =
              let same : suc j ≡ suc i = sym here-stands ∙ rw (eqb-true d passed b) at found in
              let entry : j ≡ i = omega arith in
              differs (rw entry has)
          others-on d i h false b found has = let other = eqb-false d passed b in at.others d i (omega arith) found has

-- ---- Cells are written

pub plants : (index : List ℕ) (cell k : ℕ) {from : ℕ} {cleared : List ℕ} → from ≡ first_cell k → cleared ≡ emptied index from fan_out
    → set cleared cell (k + 1) ≡ planted index cell k
plants index cell k here e = rw (e, here) refl

module _ (index : List ℕ) (cell k : ℕ) (small : cell < first_cell k) (fits : cell_of k fan_out ≤ length index) where
  planted-here : get_or (planted index cell k) cell 0 ≡ suc k
  planted-here = get_or-set_same (emptied index (first_cell k) fan_out) cell (k + 1) 0 (rw (emptied-length index (first_cell k) fan_out) (omega arith)) ∙ add-one k

  planted-before : (c : ℕ) → c < first_cell k → (c ≡ cell → ⊥) → get_or (planted index cell k) c 0 ≡ get_or index c 0
  planted-before c h other = get_or-set_other (emptied index (first_cell k) fan_out) cell c (k + 1) 0 other ∙ emptied-outside index (first_cell k) fan_out c (omega arith)

  planted-empty : (digit : ℕ) → digit < fan_out → get_or (planted index cell k) (cell_of k digit) 0 ≡ 0
  planted-empty digit h =
      get_or-set_other (emptied index (first_cell k) fan_out) cell (cell_of k digit) (k + 1) 0 (omega arith) ∙ emptied-inside index (first_cell k) fan_out (cell_of k digit) (omega arith) (omega arith) (omega arith)

-- ---- One entry more

pub free-small : (keys : ℕ → Key) (limit k : ℕ) (index : List ℕ) → Trie keys limit k index → (q : Key) (cell : ℕ) → Free index q cell → cell < first_cell k
free-small keys limit k index l q cell free = rw free.comes (walk-small keys limit k index l q free.passed free.passes)

-- Entry k has a key that no entry before it has, and the walk of the key comes to an empty cell: the entry is put there.
module _ (keys : ℕ → Key) (limit k : ℕ) (index : List ℕ) (l : Trie keys limit k index) (few : k < limit) (q : Key) (has : keys k ≡ q) (keyed : Keyed q)
    (new : (j : ℕ) → j < k → keys j ≡ q → ⊥) (cell : ℕ) (free : Free index q cell) where
  abbrev after : List ℕ
  after = planted index cell k

  small : cell < first_cell k
  small = free-small keys limit k index l q cell free

  fits : cell_of k fan_out ≤ length index
  fits = omega (arith, l.size, few)

  stays : (c : ℕ) → c < first_cell k → 0 < get_or index c 0 → get_or after c 0 ≡ get_or index c 0
  stays c h some-entry = planted-before index cell k small fits c h (λ same. let z = rw same at some-entry in let e = free.empty in omega (arith, z, e))

  -- What the walk of a key passes, it passes still.
  same-walk : (p : Key) (d : ℕ) → Passes index p d → walk after p d ≡ walk index p d
  same-walk p zero on = walk_start after p ∙ sym (walk_start index p)
  same-walk p (suc d) on =
      let before = shorter index p d on in
      rw (walk_more after p d, walk_more index p d, same-walk p d before, stays _ (walk-small keys limit k index l p d before) (on d (omega arith)))

  still-passes : (p : Key) (d : ℕ) → Passes index p d → Passes after p d
  still-passes p d on e h =
      let before : Passes index p e = λ f g. on f (omega arith) in
      rw (same-walk p e before, stays _ (walk-small keys limit k index l p e before) (on e h)) (on e h)

  still-reached : (p : Key) (d j : ℕ) → Passes index p d → get_or index (walk index p d) 0 ≡ suc j → get_or after (walk after p d) 0 ≡ suc j
  still-reached p d j on e = rw (same-walk p d on, stays _ (walk-small keys limit k index l p d on) (omega (arith, e))) e

  -- the depth of each entry
  depths : ℕ → ℕ
  depths j = cond (eqb j k) free.passed (l.depth j)

  depth-here : depths k ≡ free.passed
  unfolding depths
  depth-here = rw (eq-eqb k k refl)

  depth-other : (j : ℕ) → (j ≡ k → ⊥) → depths j ≡ l.depth j
  unfolding depths
  depth-other j other = rw (ne_eqb j k other)

  -- what stands in a cell of an entry before, or in a bucket
  data Stands (c j : ℕ) : Type 0 where
    old : get_or index c 0 ≡ suc j → (j ≡ k → ⊥) → Stands c j
    added : c ≡ cell → j ≡ k → Stands c j

  stands-in : (c j : ℕ) → c < first_cell k → get_or after c 0 ≡ suc j → Stands c j
  stands-in c j h e = go (eqb c cell) refl
    where
      go : (t : Bool) → eqb c cell ≡ t → Stands c j
      go true t =
          let same = eqb-true c cell t in
          let here : suc k ≡ suc j = sym (planted-here index cell k small fits) ∙ rw same at e in
          added same (omega arith)
      go false t =
          let stood = sym (planted-before index cell k small fits c h (eqb-false c cell t)) ∙ e in
          old stood (let kept = l.within c h in λ same. omega (arith, kept, stood, same))

  -- the cell is a bucket, or one of an entry that the walk passed last
  data Cell (c : ℕ) : Type 0 where
    bucket : c ≡ bucket_of q → free.passed ≡ 0 → Cell c
    under : (d i : ℕ) → free.passed ≡ suc d → Passes index q d → get_or index (walk index q d) 0 ≡ suc i → c ≡ cell_of i (digit_at (trail_of q) d) → Cell c

  cell-is : Cell cell
  cell-is = go free.passed refl free.passes free.comes
    where
      go : (d : ℕ) → free.passed ≡ d → Passes index q d → cell ≡ walk index q d → Cell cell
      go zero is on comes = bucket (comes ∙ walk_start index q) is
      go (suc d) is on comes =
          let i = get_or index (walk index q d) 0 - 1 in
          let some-entry = on d (omega arith) in
          under d i is (shorter index q d on) (omega (arith, some-entry)) (comes ∙ walk_more index q d)

  heads-on : (b j : ℕ) → b < bucket_count → get_or after b 0 ≡ suc j → First keys depths b j
  heads-on b j h e = go (stands-in b j (omega arith) e)
    where
      here : b ≡ cell → Cell cell → (free.passed ≡ 0) × (bucket_of q ≡ b)
      here same (bucket of is) = (is, sym of ∙ sym same)
      here same (under d i is on stood place) = absurd (omega (arith, h, same, place))

      go : Stands b j → First keys depths b j
      go (old stood other) = let first = l.heads b j h stood in record { no_deeper = depth-other j other ∙ first.no_deeper; bucket = first.bucket }
      go (added same is) = let (none_passed, of) = here same cell-is in record { no_deeper = rw (is, depth-here) none_passed; bucket = rw (is, has) of }

  -- Entries hang below entries as before, and the new one below the last that the walk passed.
  below_on : (i digit j : ℕ) → i < k + 1 → digit < fan_out → get_or after (cell_of i digit) 0 ≡ suc j → Below keys depths i digit j
  below_on i digit j h small-digit e = go (eqb i k) refl
    where
      hangs : (i ≡ k → ⊥) → Stands (cell_of i digit) j → Below keys depths i digit j
      hangs before (old stood other) =
          let b = l.below i digit j (omega (arith, before)) small-digit stood in
          let depth = depth-other i before in
          record { deeper = depth-other j other ∙ b.deeper ∙ ap suc (sym depth); bucket = b.bucket; agree = rw depth b.agree; next = rw depth b.next }
      hangs before (added same is) = under-it cell-is
        where
          under-it : Cell cell → Below keys depths i digit j
          under-it (bucket of none_passed) = absurd (omega (arith, of, bucket-small q, same))
          under-it (under d i' passed on stood place) =
              let entry : i' ≡ i = omega (arith, same, place, small-digit, digit-small (trail_of q) d) in
              let turn : digit_at (trail_of q) d ≡ digit = omega (arith, same, place, entry) in
              let met = walk_meets keys limit k index l q d i on (rw entry at stood) in
              let depth : depths i ≡ d = depth-other i before ∙ met.depth in
              record {
                deeper = rw (is, depth, depth-here) passed;
                bucket = rw (is, has) (sym met.bucket);
                agree = rw (is, has, depth) (λ f g. sym (met.agree f g));
                next = rw (is, has, depth) turn;
              }

      go : (t : Bool) → eqb i k ≡ t → Below keys depths i digit j
      go true t = absurd (let empty = planted-empty index cell k small fits digit small-digit in let z = rw (eqb-true i k t) at e in omega (arith, empty, z))
      go false t = let before = eqb-false i k t in hangs before (stands-in (cell_of i digit) j (omega (arith, h, before, small-digit)) e)

  within_on : (c : ℕ) → c < first_cell (k + 1) → get_or after c 0 ≤ k + 1
  within_on c h = go (leb (first_cell k) c) refl
    where
      before : (t : Bool) → eqb c cell ≡ t → c < first_cell k → get_or after c 0 ≤ k + 1
      before true t low = rw (eqb-true c cell t) (omega (arith, planted-here index cell k small fits))
      before false t low = omega (arith, planted-before index cell k small fits c low (eqb-false c cell t), l.within c low)

      go : (t : Bool) → leb (first_cell k) c ≡ t → get_or after c 0 ≤ k + 1
      go true t =
          let high = leb-true (first_cell k) c t in
          let place : cell_of k (c - first_cell k) ≡ c = omega (arith, high) in
          let empty = planted-empty index cell k small fits (c - first_cell k) (omega (arith, h, high)) in
          let z = rw place at empty in omega (arith, z)
      go false t = before (eqb c cell) refl (leb-false (first_cell k) c t)

  by-entry : (P : ℕ → Type 0) → P k → ((j : ℕ) → j < k → P j) → (j : ℕ) → j < k + 1 → P j
  by-entry P last before j h = go (eqb j k) refl
    where
      go : (t : Bool) → eqb j k ≡ t → P j
      go true t = rw (eqb-true j k t) last
      go false t = let other = eqb-false j k t in before j (omega arith)

  differ-on : (i j : ℕ) → i < k + 1 → j < k + 1 → keys i ≡ keys j → i ≡ j
  differ-on i j hi hj =
      by-entry (λ i. keys i ≡ keys j → i ≡ j)
      (by-entry (λ j. keys k ≡ keys j → k ≡ j) (λ e. refl) (λ j h e. absurd (new j h (sym e ∙ has))) j hj)
      (λ i h. by-entry (λ j. keys i ≡ keys j → i ≡ j) (λ e. absurd (new i h (e ∙ has))) (λ j g. l.differ i j h g) j hj)
      i hi

  pub trie-more : Trie keys limit (k + 1) after
  trie-more =
      record {
        size = simp length-set (emptied-length index (first_cell k) fan_out ∙ l.size);
        few = omega (arith, few);
        keyed = by-entry (λ j. Keyed (keys j)) (rw has keyed) l.keyed;
        differ = differ-on;
        within = within_on;
        depth = depths;
        passes = by-entry (λ j. Passes after (keys j) (depths j)) (rw (has, depth-here) (still-passes q free.passed free.passes))
            (λ j h. rw (depth-other j (λ e. omega (arith, e, h))) (still-passes (keys j) (l.depth j) (l.passes j h)));
        reached = by-entry (λ j. get_or after (walk after (keys j) (depths j)) 0 ≡ suc j)
            (rw (has, depth-here, same-walk q free.passed free.passes, ← free.comes) (planted-here index cell k small fits))
            (λ j h. rw (depth-other j (λ e. omega (arith, e, h))) (still-reached (keys j) (l.depth j) j (l.passes j h) (l.reached j h)));
        heads = heads-on;
        below = below_on;
      }

-- ---- No entries, and the same keys

pub trie-none : (keys : ℕ → Key) (limit : ℕ) (index : List ℕ) → length index ≡ first_cell limit → ((b : ℕ) → b < bucket_count → get_or index b 0 ≡ 0)
    → Trie keys limit 0 index
trie-none keys limit index size empty =
    record {
      size = size;
      few = omega arith;
      keyed = λ j h. absurd (omega arith);
      differ = λ i j h. absurd (omega arith);
      within = λ c h. omega (arith, empty c h);
      depth = λ j. 0;
      passes = λ j h. absurd (omega arith);
      reached = λ j h. absurd (omega arith);
      heads = λ b j h f. absurd (omega (arith, empty b h, f));
      below = λ i digit j h. absurd (omega arith);
    }

-- The keys of the first k entries alone matter.
pub trie-same : (keys keys' : ℕ → Key) (limit k : ℕ) (index : List ℕ) → ((j : ℕ) → j < k → keys j ≡ keys' j) → Trie keys limit k index → Trie keys' limit k index
trie-same keys keys' limit k index same l =
    record {
      size = l.size;
      few = l.few;
      keyed = λ j g. rw (same j g) at (l.keyed j g);
      differ = λ i j f g e. l.differ i j f g (same i f ∙ e ∙ sym (same j g));
      within = l.within;
      depth = l.depth;
      passes = λ j g. rw (same j g) at (l.passes j g);
      reached = λ j g. rw (same j g) at (l.reached j g);
      heads = λ b j g stood.
          let kept = l.within b (omega (arith, g)) in
          let first = l.heads b j g stood in
          record { no_deeper = first.no_deeper; bucket = rw (same j (omega (arith, kept, stood))) at first.bucket };
      below = λ i digit j f g stood.
          let kept = l.within (cell_of i digit) (omega (arith, f, g)) in
          let b = l.below i digit j f g stood in
          let last = same j (omega (arith, kept, stood)) in
          record { deeper = b.deeper; bucket = rw (last, same i f) at b.bucket; agree = rw (last, same i f) at b.agree; next = rw last at b.next };
    }
