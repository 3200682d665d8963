-- The row of a cycle has the settled values of the watched leaves.
use Rattle.std.proofs.Common.{◌≡◌, ⊎_elim, ℕ, ◌<◌, List, map, length, get_or, slice_get, slice_index, slice_index_or, Some, sym, subst, ap, ◌∙◌, arith}
use Rattle.std.proofs.lemmas.Bool.{cases_lt}
use Rattle.std.proofs.lemmas.List.{ext_get_or, get_or-map, get_or_default, length-map}
use Rattle.std.proofs.lemmas.Option.{get_or_from_slice_get, slice_get_within}
use Rattle.bit_words.specs.declared.value.Value.{Value}
use Rattle.ground_net.specs.Cycles.{Valuation}
use Rattle.flat_code.specs.declared.code.Code.{Code}
use Rattle.flat_code.specs.Codes.{outputs_by}
use Rattle.partition_code.specs.Codes.{AreOfOneCut}
use Rattle.partition_code.proofs.Places.{place, position_below}
use Rattle.crew_workers.specs.Scripts.{RowOf}

module _ (codes : List Code) (cut : AreOfOneCut codes) (ws : List ℕ) (x row : List Value) (of : RowOf codes ws x row) where
  -- a place of a row is of a code, at one of its outputs
  not_short : length row < length cut.watch → ⊥
  not_short lt =
      let p = place codes cut (length row) lt in
      let code_is : slice_index_or codes p.0 p.1 ≡ p.1 = get_or_from_slice_get codes p.0 p.1 p.1 p.2 in
      let j = p.3.0 in
      let below = of.places.below.each p.0 j p.1 (slice_get_within codes p.0 p.1 p.2) (subst (λ (c : Code). j < length c.positions) (sym code_is) p.3.1) in
      let at : slice_index p.1.positions j ≡ length row = get_or_default p.1.positions j 0 (length row) p.3.1 ∙ p.3.2 in
      let same : slice_index (slice_index_or codes p.0 p.1).positions j ≡ length row = ap (λ (c : Code). slice_index c.positions j) code_is ∙ at in
      omega (arith, below, same)

  not_long : length cut.watch < length row → ⊥
  not_long lt =
      let p = of.places.no_other (length cut.watch) lt in
      let below = position_below codes cut p.number p.code p.there (length cut.watch) p.here in
      omega (arith, below)

  row_long : length row ≡ length cut.watch
  row_long = ⊎_elim (λ lt. absurd (not_short lt)) (λ ge. ⊎_elim (λ lt. absurd (not_long lt)) (λ le. omega (arith, ge, le)) (cases_lt (length cut.watch) (length row))) (cases_lt (length row) (length cut.watch))

  pub row_watched : (rho : Valuation) → ((k : ℕ) (code : Code) → slice_get codes k ≡ Some code → outputs_by code ws x ≡ map (λ n. rho (slice_index cut.watch n)) code.positions) → row ≡ map rho cut.watch
  row_watched rho put = ext_get_or (rho 0) row (map rho cut.watch) (row_long ∙ sym (length-map cut.watch rho)) (λ i lt.
      let inside : i < length cut.watch = subst (λ n. i < n) row_long lt in
      let p = place codes cut i inside in
      let j = p.3.0 in
      let code_is : slice_index_or codes p.0 p.1 ≡ p.1 = get_or_from_slice_get codes p.0 p.1 p.1 p.2 in
      let at : slice_index p.1.positions j ≡ i = get_or_default p.1.positions j 0 i p.3.1 ∙ p.3.2 in
      let one = of.each p.0 j p.1 (rho 0) (slice_get_within codes p.0 p.1 p.2) (subst (λ (c : Code). j < length c.positions) (sym code_is) p.3.1) in
      let here : get_or row i (rho 0) ≡ get_or (outputs_by p.1 ws x) j (rho 0) =
      ap (λ n. get_or row n (rho 0)) (sym (ap (λ (c : Code). slice_index c.positions j) code_is ∙ at)) ∙ (one ∙ ap (λ (c : Code). get_or (outputs_by c ws x) j (rho 0)) code_is) in
      here ∙ (ap (λ l. get_or l j (rho 0)) (put p.0 p.1 p.2) ∙ (get_or-map (λ n. rho (slice_index cut.watch n)) p.1.positions j 0 (rho 0) p.3.1
      ∙ (ap (λ n. rho (slice_index cut.watch n)) at ∙ sym (get_or-map rho cut.watch i 0 (rho 0) inside)))))
