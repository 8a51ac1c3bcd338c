-- Stop 17 (F-4 of document 02): sums and differences around both ends of Int, the order of the stops, and what is left behind.
use Rattle.std.specs.Prelude.{List, [], ◌∷◌, ◌++◌, ◌≡◌, ℤ, pos, negsuc, ℕ}
use Rattle.saiga.specs.Sheet.{context}
use Rattle.saiga.specs.Plain.{on_null, by_overflow, EndsWithout}
use Rattle.saiga.specs.Ask.{asking, asked}
use Rattle.saiga.specs.TableL.{sheet_l, over_the_end, Row, row, bring, brought, Plainly}
use Rattle.saiga.specs.Rows.{whole, lowest_int, highest_int, minus_one, two, if_then_else, attribute_of, this-node, node_literal, the_parameter, rule-for, asks, an_int, a_bool, stop}
use Rattle.saiga.specs.Misreadings.{sheet_p, next, next_of_null, computes, a_step_to}

-- ---- Both ends, for add (4) and subtract (5)

-- Budgets 0, 1, 2 and the largest. The first application counts, and needs budget. The second is tested for overflow, then for budget.
abbrev pub beyond : ℕ → List ℕ → List ℕ → Row
beyond f x y =
    row (0x5A ∷ []) 0 (asking (two f x y) 0 ∷ asking (two f x y) 1 ∷ asking (two f x y) 2 ∷ asking (two f x y) 1000000 ∷ [])
    (stop 15 0 0 ∷ stop 17 1 0 ∷ stop 17 1 0 ∷ stop 17 1 0 ∷ [])

abbrev pub fits : ℕ → List ℕ → List ℕ → ℤ → Row
fits f x y z =
    row (0x5A ∷ []) 0 (asking (two f x y) 0 ∷ asking (two f x y) 1 ∷ asking (two f x y) 2 ∷ asking (two f x y) 1000000 ∷ [])
    (stop 15 0 0 ∷ stop 15 1 0 ∷ an_int z 2 0 ∷ an_int z 2 0 ∷ [])

abbrev pub both_ends : List Row
both_ends =
    -- one beyond, and the end itself
    beyond 4 highest_int (whole 1) ∷
    beyond 4 (whole 1) highest_int ∷
    fits 4 highest_int (whole 0) (pos 2147483647) ∷
    beyond 4 lowest_int minus_one ∷
    beyond 4 minus_one lowest_int ∷
    fits 4 lowest_int (whole 0) (negsuc 2147483647) ∷
    beyond 5 highest_int minus_one ∷
    beyond 5 (whole 0) lowest_int ∷
    fits 5 minus_one lowest_int (pos 2147483647) ∷
    beyond 5 lowest_int (whole 1) ∷
    fits 5 (whole 0) highest_int (negsuc 2147483646) ∷
    fits 5 lowest_int (whole 0) (negsuc 2147483647) ∷
    -- far beyond, and from one end to the other
    beyond 4 highest_int highest_int ∷
    beyond 4 lowest_int lowest_int ∷
    beyond 5 highest_int lowest_int ∷
    beyond 5 lowest_int highest_int ∷
    fits 4 lowest_int highest_int (negsuc 0) ∷
    fits 4 highest_int lowest_int (negsuc 0) ∷
    -- le and equal give a Bool of any two Ints.
    computes (two 0 lowest_int highest_int) (a_bool 1 2) ∷
    computes (two 0 highest_int lowest_int) (a_bool 0 2) ∷
    computes (two 1 lowest_int highest_int) (a_bool 0 2) ∷
    []

-- ---- Where it is due, and what it leaves

-- one more than the highest Int
abbrev pub too_much : List ℕ
too_much = two 4 highest_int (whole 1)

-- add(next(3))(next(x)) on sheet_p, where next(x) is add(x)(1)
abbrev pub after_next : List ℕ → List ℕ
after_next x = two 4 (next (whole 3)) (next x)

-- One attribute, climb, Int with Int parameter, and one node: climb is climb of this node with add(the parameter)(the parameter).
abbrev pub sheet_climb : List ℕ
sheet_climb = 0x41 ∷ 2 ∷ 2 ∷ 0x4E ∷ 0 ∷ rule-for 0 0 (attribute_of 0 this-node (two 4 the_parameter the_parameter)) ++ 0x5A ∷ []

abbrev pub climb : List ℕ
climb = attribute_of 0 (node_literal 0) (whole 1)

abbrev pub places : List Row
places =
    -- Inside an open form: next(the highest) is not kept. With the whole budget used, 17 at its sum, and 15 a step before.
    row sheet_p 4 (asking (next highest_int) 1000000 ∷ asking (next highest_int) 2 ∷ asking (next highest_int) 1 ∷ [])
    (stop 17 2 0 ∷ stop 17 2 0 ∷ stop 15 1 0 ∷ []) ∷
    -- What was finished before is kept: next(3), after 3 of the 6 steps. It takes 1 step from then on.
    row sheet_p 4 (asking (after_next highest_int) 1000000 ∷ asking (after_next highest_int) 4 ∷ asking (after_next highest_int) 3 ∷ asking (next (whole 3)) 1 ∷ [])
    (stop 17 6 1 ∷ stop 17 4 1 ∷ stop 15 3 1 ∷ an_int (pos 4) 1 1 ∷ []) ∷
    -- So is what was kept before, where the store is full.
    row sheet_p 1 (asking (next (whole 5)) 1000000 ∷ asking (after_next highest_int) 1000000 ∷ asking (next (whole 5)) 1 ∷ [])
    (an_int (pos 6) 3 1 ∷ stop 17 6 1 ∷ an_int (pos 6) 1 1 ∷ []) ∷
    -- The parts come in their order: in the parameter before null is tested, in an argument after the left part, in a condition, and not in a branch
    -- that is not taken.
    asks sheet_p 1 (next_of_null too_much) 1000000 (stop 17 1 0) ∷
    asks sheet_p 1 (two 4 too_much (next_of_null (whole 1))) 1000000 (stop 17 1 0) ∷
    asks sheet_p 1 (two 4 (next_of_null (whole 1)) too_much) 1000000 (stop 14 0 0) ∷
    asks sheet_p 1 (if_then_else (two 0 too_much (whole 1)) (whole 1) (whole 2)) 1000000 (stop 17 1 0) ∷
    asks sheet_p 1 (if_then_else (two 0 (whole 1) (whole 1)) (whole 1) too_much) 1000000 (an_int (pos 1) 3 0) ∷
    -- A recursion that climbs ends: each of the 30 sums from 1 to 1,073,741,824 takes AttrApp and two AppApp, and the next does not fit.
    asks sheet_climb 64 climb 1000000 (stop 17 92 0) ∷
    asks sheet_climb 64 climb 92 (stop 17 92 0) ∷
    asks sheet_climb 64 climb 91 (stop 15 91 0) ∷
    []

-- ---- Plain Saiga

-- It ends by overflow, "and n is the count then".
unfoldable pub PlainOverflow : Type 0
PlainOverflow =
    -- L13
    Plainly sheet_l over_the_end (λ s e. EndsWithout (context s) by_overflow (asked e) 1)
    -- All ends at the first: in the left part before the right one takes its step, and on null before a sum that comes later.
    × Plainly sheet_p (two 4 too_much (a_step_to (whole 1))) (λ s e. EndsWithout (context s) by_overflow (asked e) 1)
    × Plainly sheet_p (two 4 (next_of_null (whole 1)) too_much) (λ s e. EndsWithout (context s) on_null (asked e) 0)
    × Plainly sheet_p (after_next highest_int) (λ s e. EndsWithout (context s) by_overflow (asked e) 6)
    × Plainly sheet_climb climb (λ s e. EndsWithout (context s) by_overflow (asked e) 92)

-- The tables, as one statement.
unfoldable pub TableOverflow : Type 0
TableOverflow = (bring both_ends ≡ brought both_ends) × (bring places ≡ brought places) × PlainOverflow
