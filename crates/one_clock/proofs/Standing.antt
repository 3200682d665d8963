-- The places at which modules stand, as they are listed.
use Rattle.std.proofs.Common.{◌≡◌, ◌↔◌, ℕ, ◌+◌, ◌<◌, ◌≤◌, ◌^◌, ◌==◌, Bool, true, false, List, [], ◌∷◌, ◌++◌, Some, None, slice_get, get_or, length, refl, sym, ap, ◌∙◌, subst, arith, ⊎_elim}
use Rattle.std.specs.Prelude.{Contains, option_map}
use Rattle.std.proofs.lemmas.Bool.{eqb-true, eqb-false}
use Rattle.std.proofs.lemmas.List.Elements.{Contains-append_cases, Contains-append_left, Contains-append_right}
use Rattle.std.specs.Global.{Vec}
use Rattle.std.proofs.lemmas.List.{map-append, length-append}
use Rattle.std.proofs.lemmas.Option.{slice_get_within, slice_get_past, slice_get_read, slice_get-map}
use Rattle.fir_names.proofs.Graphs.{some_same}
use Rattle.drive_check.proofs.Telling.{get_contains, contains_get}
use Rattle.one_clock.specs.Tables.{Table}
use Rattle.one_clock.specs.declared.places.Standing.{Standing}
use Rattle.one_clock.specs.Stands.{Stand, stand_of, stands_of, next_stands, ComesFrom, itself, behind}
use Rattle.one_clock.proofs.Lists.{one_in, get_left, before_end}

-- all come from the first one, and what stands behind the first ones is there
pub record Listed (table : Table) (start : Stand) (places : List Stand) (at : ℕ) : Type 0 where
  pub begun : Contains places start
  pub sound : (x : Stand) → Contains places x → ComesFrom table start x
  pub done : (k : ℕ) (x : Stand) → k < at → slice_get places k ≡ Some x → (y : Stand) → Contains (next_stands table x) y → Contains places y

pub listed_first : (table : Table) (start : Stand) (places : List Stand) → places ≡ start ∷ [] → Listed table start places 0
listed_first table start places e = record {
  begun = subst (λ l. Contains l start) (sym e) (0, omega arith, refl);
  sound = λ x c. subst (ComesFrom table start) (sym (one_in start x (subst (λ l. Contains l x) e c))) itself;
  done = λ k x below. absurd (omega (arith, below));
}

pub listed_next : (table : Table) (start : Stand) (places next after : List Stand) (at : ℕ) (x : Stand) → Listed table start places at → slice_get places at ≡ Some x → next ≡ next_stands table x
    → after ≡ places ++ next → Listed table start after (at + 1)
listed_next table start places next after at x h here' is all = subst (λ l. Listed table start l (at + 1)) (sym (all ∙ ap (λ l. places ++ l) is)) (record {
  begun = kept start h.begun;
  sound = λ y c. ⊎_elim (λ l. h.sound y l) (λ r. behind x y (h.sound x (get_contains places at x here')) r) (Contains-append_cases places (next_stands table x) y c);
  done = λ k z below there' y c. by k z below (sym (get_left places (next_stands table x) k (within k below)) ∙ there') y c (k == at) refl;
})
  where
    kept : (y : Stand) → Contains places y → Contains (places ++ next_stands table x) y
    kept y c = Contains-append_left places (next_stands table x) y c

    within : (k : ℕ) → k < at + 1 → k < length places
    within k below = let w = slice_get_within places at x here' in omega (arith, below, w)

    by : (k : ℕ) (z : Stand) → k < at + 1 → slice_get places k ≡ Some z → (y : Stand) → Contains (next_stands table z) y → (b : Bool) → (k == at) ≡ b → Contains (places ++ next_stands table x) y
    by k z below there' y c true same =
        let one : z ≡ x = some_same (sym there' ∙ ap (slice_get places) (eqb-true k at same) ∙ here') in
        Contains-append_right places (next_stands table x) y (subst (λ s. Contains (next_stands table s) y) one c)
    by k z below there' y c false other = let no = eqb-false k at other in kept y (h.done k z (omega (arith, below, no)) there' y c)

pub listed_all : (table : Table) (start : Stand) (places : List Stand) (at : ℕ) → Listed table start places at → slice_get places at ≡ None → (x : Stand) → Contains places x ↔ ComesFrom table start x
listed_all table start places at h end' x = (h.sound x, found)
  where
    found : {y : Stand} → ComesFrom table start y → Contains places y
    found itself = h.begun
    found (behind x y from c) =
        let at' = contains_get places x (found from) in
        h.done at'.0 x (before_end places at'.0 at x at'.1 end') at'.1 y c

-- The list as it is held

pub first_listed : (table : Table) (main : ℕ) (empty all : List Standing) (path : Vec ℕ) → empty ≡ [] → path.items ≡ [] → all ≡ empty ++ record { path = path; name = main } ∷ []
    → Listed table ([], main) (stands_of all) 0
first_listed table main empty all path e f h =
    listed_first table ([], main) (stands_of all) (ap stands_of (h ∙ ap (λ l. l ++ record { path = path; name = main } ∷ []) e) ∙ ap (λ (p : List ℕ). (p, main) ∷ []) f)

pub more_listed : (table : Table) (start : Stand) (places items next after : List Standing) (at : ℕ) (x : Standing) → Listed table start (stands_of places) at → items ≡ places → at < length items
    → x ≡ get_or items at x → stands_of next ≡ next_stands table (stand_of x) → after ≡ places ++ next → Listed table start (stands_of after) (at + 1)
more_listed table start places items next after at x h e below is n a =
    let here' : slice_get places at ≡ Some x = ap (λ l. slice_get l at) (sym e) ∙ slice_get_read items (length items) at x refl below is in
    listed_next table start (stands_of places) (stands_of next) (stands_of after) at (stand_of x) h (slice_get-map stand_of places at ∙ ap (option_map stand_of) here') n
    (ap stands_of a ∙ map-append stand_of places next)

pub all_listed : (table : Table) (start : Stand) (places items : List Standing) (at : ℕ) → Listed table start (stands_of places) at → items ≡ places → length items ≤ at
    → (x : Stand) → Contains (stands_of places) x ↔ ComesFrom table start x
all_listed table start places items at h e past =
    listed_all table start (stands_of places) at h (slice_get-map stand_of places at ∙ ap (option_map stand_of) (ap (λ l. slice_get l at) (sym e) ∙ slice_get_past items at past))

-- The end of the list

pub one_more : (places items next after : List Standing) (at : ℕ) → items ≡ places → at < length items → after ≡ places ++ next → at + 1 ≤ length after
one_more places items next after at e below is =
    let both = ap length is ∙ length-append places next in
    let all = ap length e in
    omega (arith, below, both, all)

-- no list of places is so long that a step would lead behind the last number
pub no_end : (places : Vec Standing) (at : ℕ) → at ≤ length places.items → 2 ^ 63 ≤ at → ⊥
no_end places at within far =
    let whole = places.ok.0 in
    let held = places.ok.1 in
    let small = places.small in
    omega (arith, within, far, whole, held, small)
