-- What a table of the fullest part's sinks says of all moves.
use Rattle.std.proofs.Common.{◌≡◌, ◌≢◌, ℕ, ◌<◌, ◌≤◌, List, length, slice_get, slice_index, slice_set, Some, refl, sym, subst, ap, ◌∙◌, arith, ⊎_elim, inl, inr}
use Rattle.std.specs.List.{AllZip}
use Rattle.std.proofs.lemmas.Bool.{cases_eq, cases_lt}
use Rattle.std.proofs.lemmas.Option.{slice_get_within, slice_get-get_or, get_or_from_slice_get}
use Rattle.cone_cutter.specs.Cuts.{NeededBy}
use Rattle.cone_cutter.specs.Rows.{places_of}
use Rattle.cone_cutter.proofs.Lists.{stands, stood}
use Rattle.cone_cutter.proofs.KeyPlaces.{place_from, place_to, places_rise}
use Rattle.cut_refine.specs.declared.refined.Move.{Move}
use Rattle.cut_refine.specs.Refining.{HasCost, IsGreatest, IsMove, GoesBefore, NoneLowers, IsBest, IsFullest, IsRow, IsTable, of_several}
use Rattle.cut_refine.specs.Standing.{AreSized, IsFirstMost, IsFirstLeast, IsChosen}
use Rattle.cut_refine.proofs.Unique.{counts_one}
use Rattle.cut_refine.proofs.Sets.{counts_union, zip_left, zip_right}
use Rattle.cut_refine.proofs.Moving.{aside_cost, into_old, into_new, into_from}

-- A part costs no less where a sink of another part moves.
kept_cost : (cone : ℕ → ℕ → Type 0) (owners : List ℕ) (part greatest s t : ℕ) → AreSized cone (length owners) → HasCost cone owners part greatest → s < length owners → slice_index owners s ≢ part
    → (k : ℕ) × HasCost cone (slice_set owners s t) part k × (greatest ≤ k)
kept_cost cone owners part greatest s t sized cost inside away = ⊎_elim
    (λ e. let size = sized s inside in
    let both = counts_union (NeededBy cone (places_of owners t)) (cone s) (NeededBy cone (places_of (slice_set owners s t) t)) greatest size.0 (subst (λ q. HasCost cone owners q greatest) (sym e) cost) size.1
    (into_old cone owners s t inside) (into_new cone owners s t inside) (into_from cone owners s t inside) in
    (both.0, subst (λ q. HasCost cone (slice_set owners s t) q both.0) e both.1, both.2))
    (λ n. (greatest, aside_cost cone owners s t inside part greatest away n cost, omega arith))
    (cases_eq t part)

pub others_lower_nothing : (cone : ℕ → ℕ → Type 0) (workers : ℕ) (owners : List ℕ) (part greatest : ℕ) → AreSized cone (length owners) → part < workers → HasCost cone owners part greatest
    → (move : Move) → IsMove cone workers owners move → slice_index owners move.sink ≢ part → greatest ≤ move.greatest
others_lower_nothing cone workers owners part greatest sized lt cost move is away =
    let kept = kept_cost cone owners part greatest move.sink move.target sized cost is.sink away in
    let most = is.greatest.most part kept.0 lt kept.1 in
    let more = kept.2 in
    omega (arith, most, more)

pub two_lower_nothing : (cone : ℕ → ℕ → Type 0) (workers : ℕ) (owners : List ℕ) (part other greatest : ℕ) → AreSized cone (length owners) → part < workers → other < workers → part ≢ other
    → HasCost cone owners part greatest → HasCost cone owners other greatest → NoneLowers cone workers owners greatest
two_lower_nothing cone workers owners part other greatest sized lp lo apart a b move is = ⊎_elim
    (λ e. others_lower_nothing cone workers owners other greatest sized lo b move is (λ f. apart (sym e ∙ f)))
    (λ n. others_lower_nothing cone workers owners part greatest sized lp a move is n)
    (cases_eq (slice_index owners move.sink) part)

pub none_of_one : (cone : ℕ → ℕ → Type 0) (workers : ℕ) (owners : List ℕ) → workers ≡ 1 → ((k : ℕ) → k < length owners → slice_index owners k < workers) → (move : Move) → IsMove cone workers owners move → ⊥
none_of_one cone workers owners one within move is =
    let at = within move.sink is.sink in
    let to = is.target in
    is.other (omega (arith, at, to, one))

module _ (cone : ℕ → ℕ → Type 0) (workers : ℕ) (owners costs : List ℕ) (part greatest : ℕ) (long : length costs ≡ workers) (full : IsFirstMost costs part)
    (counts : (p : ℕ) → p < workers → HasCost cone owners p (slice_index costs p)) (cost : slice_index costs part ≡ greatest) where
  cost_is : (p n : ℕ) → p < workers → HasCost cone owners p n → n ≡ slice_index costs p
  cost_is p n lt h = counts_one (NeededBy cone (places_of owners p)) n (slice_index costs p) h (counts p lt)

  pub part_lt : part < workers
  part_lt = omega (arith, full.within, long)

  pub part_cost : HasCost cone owners part greatest
  part_cost = subst (HasCost cone owners part) cost (counts part part_lt)

  pub is_greatest : IsGreatest cone workers owners greatest
  is_greatest = record {
    most = λ p n lt h. omega (arith, cost_is p n lt h, full.most p (omega (arith, lt, long)), cost);
    part = part;
    within = part_lt;
    reached = part_cost;
  }

  pub is_fullest : IsFullest cone workers owners greatest part
  is_fullest = record {
    within = part_lt;
    full = part_cost;
    first = λ p n lt h. omega (arith, cost_is p n (omega (arith, lt, part_lt)) h, full.first p lt, cost);
  }

  module _ (table : List Move) (rows : AllZip (IsRow cone workers owners) (places_of owners part) table) (sized : AreSized cone (length owners)) (best : Move) (chosen : IsChosen table greatest best) where
    -- the row of a sink of the part
    row_of : (s : ℕ) → s < length owners → slice_index owners s ≡ part → (i : ℕ) × (slice_get (places_of owners part) i ≡ Some s) × (m : Move) × (slice_get table i ≡ Some m) × IsRow cone workers owners s m
    row_of s inside own =
        let at = stood (places_of owners part) s (place_to owners part s inside own) in
        let there : slice_get (places_of owners part) at.0 ≡ Some s = slice_get-get_or (places_of owners part) at.0 0 at.1 ∙ ap Some at.2 in
        let z = zip_left (IsRow cone workers owners) (places_of owners part) table at.0 s rows there in
        (at.0, there, z.0, z.1, z.2)

    row_first : (s : ℕ) (o m : Move) → IsRow cone workers owners s m → IsMove cone workers owners o → o.sink ≡ s → m.greatest ≤ o.greatest
    row_first s o m row is e = ⊎_elim (λ less. absurd (row.first o is e (inl less))) (λ ge. ge) (cases_lt o.greatest m.greatest)

    pub none_lowers_by_table : greatest ≤ best.greatest → NoneLowers cone workers owners greatest
    none_lowers_by_table out o is = ⊎_elim
        (λ own. let r = row_of o.sink is.sink own in
        let low = chosen.none out r.0 r.2 r.3 in
        let first = row_first o.sink o r.2 r.4 is refl in
        omega (arith, low, first))
        (λ away. others_lower_nothing cone workers owners part greatest sized part_lt part_cost o is away)
        (cases_eq (slice_index owners o.sink) part)

    module _ (lowers : best.greatest < greatest) where
      least : IsFirstLeast table best
      least = chosen.chosen lowers

      best_row : (s : ℕ) × (slice_get (places_of owners part) least.at ≡ Some s) × IsRow cone workers owners s best
      best_row = zip_right (IsRow cone workers owners) (places_of owners part) table least.at best rows least.there

      pub best_in_part : slice_index owners best.sink ≡ part
      best_in_part =
          let lt = slice_get_within (places_of owners part) least.at best_row.0 best_row.1 in
          let c = stands (places_of owners part) best_row.0 least.at lt (get_or_from_slice_get (places_of owners part) least.at best_row.0 0 best_row.1) in
          ap (slice_index owners) best_row.2.of_sink ∙ (place_from owners part best_row.0 c).1

      -- a row of a lower sink stands before it
      lower_row : (i s : ℕ) → slice_get (places_of owners part) i ≡ Some s → s < best.sink → i < least.at
      lower_row i s there lower =
          let here = get_or_from_slice_get (places_of owners part) least.at best_row.0 0 best_row.1 in
          let at = get_or_from_slice_get (places_of owners part) i s 0 there in
          let lt = slice_get_within (places_of owners part) i s there in
          let is = best_row.2.of_sink in
          ⊎_elim (λ less. less)
          (λ past. ⊎_elim
          (λ same. let e = ap (slice_index (places_of owners part)) same in absurd (omega (arith, e, here, at, is, lower)))
          (λ n. let rises = places_rise owners part least.at i (omega (arith, past, n)) lt in absurd (omega (arith, rises, here, at, is, lower)))
          (cases_eq i least.at))
          (cases_lt i least.at)

      first_of_all : (o : Move) → IsMove cone workers owners o → GoesBefore o best → ⊥
      first_of_all o is before = ⊎_elim
          (λ own. let r = row_of o.sink is.sink own in
          let low = least.least r.0 r.2 r.3 in
          let first = row_first o.sink o r.2 r.4 is refl in
          ⊎_elim
          (λ less. omega (arith, low, first, less))
          (λ tie. ⊎_elim
          (λ lower. let sooner = least.first r.0 r.2 (lower_row r.0 o.sink r.1 lower) r.3 in let same = tie.0 in omega (arith, sooner, first, same))
          (λ target. best_row.2.first o is (target.0 ∙ best_row.2.of_sink) (inr (tie.0, inr target)))
          tie.1)
          before)
          (λ away. let kept = others_lower_nothing cone workers owners part greatest sized part_lt part_cost o is away in
          ⊎_elim (λ less. omega (arith, kept, less, lowers)) (λ tie. let same = tie.0 in omega (arith, kept, same, lowers)) before)
          (cases_eq (slice_index owners o.sink) part)

      pub is_best : IsBest cone workers owners greatest best
      is_best = record { is_move = best_row.2.is_move; lowers = lowers; first = first_of_all }

  pub table_is : (table : List Move) → 1 < workers → AllZip (IsRow cone workers owners) (places_of owners part) table → IsTable cone workers owners greatest table
  table_is table several rows = of_several several part is_fullest rows
