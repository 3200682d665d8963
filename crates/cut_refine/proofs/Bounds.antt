-- How large cones, costs and lists of sinks are.
use Rattle.std.proofs.Common.{◌≡◌, ℕ, ◌<◌, ◌≤◌, List, [], length, sym, subst, ◌∙◌, arith, ⊎_elim}
use Rattle.std.specs.List.{Contains}
use Rattle.std.proofs.lemmas.Bool.{cases_lt}
use Rattle.std.proofs.lemmas.List.{get_or_past}
use Rattle.cone_cutter.specs.Cuts.{Lists}
use Rattle.cone_cutter.specs.Rows.{row_at, places_of, reads_in, Met}
use Rattle.cone_cutter.specs.Walks.{IsOnce}
use Rattle.cone_cutter.proofs.Lists.{fits_below}
use Rattle.cone_cutter.proofs.Wide.{need_in, met_within}
use Rattle.cone_cutter.proofs.KeyPlaces.{place_from, places_rise}
use Rattle.cone_cutter.specs.declared.rows.NetRows.{NetRows}
use Rattle.cut_refine.specs.declared.targets.Target.{Target}
use Rattle.cut_refine.specs.Refining.{HasCost}
use Rattle.cut_refine.specs.Standing.{cone_of, AreConeRows, IsTarget}

pub cone_under : (rows : NetRows) → AreConeRows rows → (k x : ℕ) → cone_of rows k x → x < rows.leaves
cone_under rows h k x m = met_within rows h.are (row_at rows.needed.items k) x (subst (λ r. Met (reads_in rows) r x) (need_in rows k) m)

pub cost_small : (rows : NetRows) → AreConeRows rows → (owners : List ℕ) (p n : ℕ) → HasCost (cone_of rows) owners p n → n ≤ rows.leaves
cost_small rows h owners p n c =
    let fits = fits_below rows.leaves c.numbers c.listed.once (λ x d. let need = c.listed.only x d in cone_under rows h need.sink x need.inside) in
    omega (arith, fits, c.count)

pub cone_small : (rows : NetRows) → (k : ℕ) (found : List ℕ) → Lists (cone_of rows k) found → ((x : ℕ) → Contains found x → x < rows.leaves) → length found ≤ rows.leaves
cone_small rows k found listed below = fits_below rows.leaves found listed.once below

pub places_once : (owners : List ℕ) (p : ℕ) → IsOnce (places_of owners p)
places_once owners p j k less lt e = let rises = places_rise owners p j k less lt in omega (arith, rises, e)

pub places_few : (owners : List ℕ) (p : ℕ) → length (places_of owners p) ≤ length owners
places_few owners p = fits_below (length owners) (places_of owners p) (places_once owners p) (λ k c. (place_from owners p k c).0)

pub target_same : (f g : ℕ → ℕ) (count other part : ℕ) (target : Target) → count ≡ other → ((p : ℕ) → p < count → f p ≡ g p) → IsTarget f count part target → IsTarget g other part target
target_same f g count other part target e same h = record {
  within = omega (arith, h.within, e);
  other = h.other;
  is = sym (same target.part h.within) ∙ h.is;
  least = λ p lt n. let inside : p < count = omega (arith, lt, e) in omega (arith, h.least p inside n, same p inside);
  lowest = λ p lt n. let inside : p < count = omega (arith, lt, h.within) in omega (arith, h.lowest p lt n, same p inside);
}
