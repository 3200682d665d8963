-- Rows, looks and steps, by what the functions keep between them.
use Rattle.std.proofs.Common.{◌≡◌, ℕ, ◌<◌, ◌≤◌, ◌^◌, List, [], length, slice_index, slice_set, refl, sym, subst, ap, ◌∙◌, arith}
use Rattle.std.specs.List.{Contains, AllZip}
use Rattle.std.proofs.lemmas.List.{length-set}
use Rattle.std.proofs.lemmas.Option.{slice_get_within}
use Rattle.ground_net.specs.declared.net.Net.{Net}
use Rattle.ground_net.specs.declared.net.Ordered.{Ordered}
use Rattle.ground_net.specs.declared.net.Cut.{Cut}
use Rattle.ground_net.specs.declared.net.CutPart.{CutPart}
use Rattle.ground_net.specs.Cones.{sinks}
use Rattle.ground_net.specs.Reads.{IsOrder}
use Rattle.cone_cutter.specs.Cuts.{Lists, InConeOf, IsCut}
use Rattle.cone_cutter.specs.Rows.{places_of, read_rows, need_rows, reads_in, needs_in, AreNetRows, ConeAt}
use Rattle.cone_cutter.specs.Loads.{parts_by}
use Rattle.cone_cutter.proofs.Lists.{counts_same}
use Rattle.cone_cutter.proofs.KeyPlaces.{place_from}
use Rattle.cone_cutter.proofs.Assembly.{cone_to, cone_from, read_rows_long, need_rows_long}
use Rattle.cone_cutter.proofs.Wide.{reads_long, needs_long}
use Rattle.cone_cutter.specs.declared.rows.NetRows.{NetRows}
use Rattle.cut_refine.specs.declared.fullest.Fullest.{Fullest}
use Rattle.cut_refine.specs.declared.look.Look.{Look}
use Rattle.cut_refine.specs.declared.standing.Standing.{Standing}
use Rattle.cut_refine.specs.declared.targets.Target.{Target}
use Rattle.cut_refine.specs.Refining.{IsGreatest, NoneLowers, IsBest, Refines, ended, improved, IsRow, IsTable, of_one, IsRefined, moved}
use Rattle.cut_refine.specs.Standing.{cone_of, AreConeRows, AreSized, IsStanding, Stands, Leaves, IsMostBut, IsTarget, greatest_with, IsFullestPart, IsChosen, IsLook, IsUnderWay}
use Rattle.cut_refine.proofs.Bounds.{cost_small}
use Rattle.cut_refine.proofs.Steps.{greatest_one, row_is, stands_behind}
use Rattle.cut_refine.proofs.Looking.{none_of_one, is_greatest, none_lowers_by_table, is_best, best_in_part, table_is}
use Rattle.cut_refine.proofs.Lift.{refines_lift, table_lift}
use Rattle.cut_refine.proofs.Closing.{parts_long, unions_are, owners_are}

-- the best target of a sink with this cone
abbrev pub BestOf : Standing → Fullest → List ℕ → Target → Type 0
BestOf standing full cone target = (far : ℕ) × IsMostBut standing.costs.items full.part far × IsTarget (greatest_with standing cone full.counts.items full.part (slice_index standing.costs.items far)) (length standing.costs.items) full.part target

module _ (rows : NetRows) (standing : Standing) (full : Fullest) (small : AreConeRows rows) (stands : Stands rows standing) (is_full : IsFullestPart rows standing full)
    (s : ℕ) (there : Contains (places_of standing.owners.items full.part) s) (found : List ℕ) (listed : Lists (cone_of rows s) found) (below : (x : ℕ) → Contains found x → x < rows.leaves)
    (target : Target) (best : BestOf standing full found target) where
  pub row_of : IsRow (cone_of rows) (length standing.costs.items) standing.owners.items s (record { sink = s; target = target.part; greatest = target.greatest })
  row_of =
      let from = place_from standing.owners.items full.part s there in
      row_is (cone_of rows) rows.leaves (length standing.costs.items) standing.owners.items standing.masks.items standing.costs.items stands.is s full.part from.0 from.1 found full.counts.items listed below is_full.counts
      best.0 best.1 target best.2 (record { sink = s; target = target.part; greatest = target.greatest }) refl refl refl

  pub row_small : target.greatest < 2 ^ 32
  row_small =
      let is = row_of.is_move.greatest in
      omega (arith, cost_small rows small (slice_set standing.owners.items s target.part) is.part target.greatest is.reached, small.few)

-- The look.
module _ (rows : NetRows) (standing : Standing) (look : Look) (stands : Stands rows standing) (full : IsFullestPart rows standing look.full) (cost : slice_index standing.costs.items look.full.part ≡ look.greatest)
    (sized : AreSized (cone_of rows) (length rows.needed.items)) (chosen : IsChosen look.table look.greatest look.best) where
  greatest_is : IsGreatest (cone_of rows) (length standing.costs.items) standing.owners.items look.greatest
  greatest_is = is_greatest (cone_of rows) (length standing.costs.items) standing.owners.items standing.costs.items look.full.part look.greatest refl full.part stands.is.counts cost

  pub look_at_one : length standing.costs.items ≡ 1 → look.table ≡ [] → IsLook rows standing look
  look_at_one one none = record {
    full = full;
    cost = cost;
    greatest = greatest_is;
    table = of_one one none;
    none = λ le move is. absurd (none_of_one (cone_of rows) (length standing.costs.items) standing.owners.items one stands.is.within move is);
    best = λ lt. absurd (nothing lt);
    from = λ lt. absurd (nothing lt);
  }
    where
      nothing : look.best.greatest < look.greatest → ⊥
      nothing lt = let least = chosen.chosen lt in omega (arith, slice_get_within look.table least.at look.best least.there, ap length none)

  pub look_at_several : 1 < length standing.costs.items → AllZip (IsRow (cone_of rows) (length standing.costs.items) standing.owners.items) (places_of standing.owners.items look.full.part) look.table → IsLook rows standing look
  look_at_several several zipped =
      let sizes : AreSized (cone_of rows) (length standing.owners.items) = (λ k lt. sized k (omega (arith, lt, stands.long))) in
      record {
        full = full;
        cost = cost;
        greatest = greatest_is;
        table = table_is (cone_of rows) (length standing.costs.items) standing.owners.items standing.costs.items look.full.part look.greatest refl full.part stands.is.counts cost look.table several zipped;
        none = none_lowers_by_table (cone_of rows) (length standing.costs.items) standing.owners.items standing.costs.items look.full.part look.greatest refl full.part stands.is.counts cost look.table zipped sizes look.best chosen;
        best = is_best (cone_of rows) (length standing.costs.items) standing.owners.items standing.costs.items look.full.part look.greatest refl full.part stands.is.counts cost look.table zipped sizes look.best chosen;
        from = best_in_part (cone_of rows) (length standing.costs.items) standing.owners.items standing.costs.items look.full.part look.greatest refl full.part stands.is.counts cost look.table zipped sizes look.best chosen;
      }

-- A step.
module _ (rows : NetRows) (old new : Standing) (look : Look) (stands : Stands rows old) (is : IsLook rows old look) (lowers : look.best.greatest < look.greatest) (found : List ℕ) (listed : Lists (cone_of rows look.best.sink) found)
    (below : (x : ℕ) → Contains found x → x < rows.leaves) (leaves : Leaves look.full.part found look.full.counts.items look.best old new) where
  standing_now : IsStanding (cone_of rows) rows.leaves (length old.costs.items) (moved old.owners.items look.best) new.masks.items new.costs.items
  standing_now =
      let move = (is.best lowers).is_move in
      let own = is.from lowers in
      stands_behind (cone_of rows) rows.leaves (length old.costs.items) old.owners.items old.masks.items old.costs.items stands.is look.best.sink look.full.part move.sink own found look.full.counts.items listed below is.full.counts
      look.best.target move.target (λ e. move.other (own ∙ sym e)) leaves.between new.masks.items leaves.loses leaves.gets stands.few new.costs.items leaves.costs

  pub costs_stay : length new.costs.items ≡ length old.costs.items
  costs_stay = standing_now.costs_long

  pub stands_now : Stands rows new
  stands_now = record {
    long = ap length leaves.owners ∙ (length-set old.owners.items look.best.sink look.best.target ∙ stands.long);
    some = omega (arith, costs_stay, stands.some);
    few = omega (arith, costs_stay, stands.few);
    is = subst (λ o. IsStanding (cone_of rows) rows.leaves (length new.costs.items) o new.masks.items new.costs.items) (sym leaves.owners)
        (subst (λ n. IsStanding (cone_of rows) rows.leaves n (moved old.owners.items look.best) new.masks.items new.costs.items) (sym costs_stay) standing_now);
  }

-- One step further.
module _ (rows : NetRows) (count : ℕ) (parts : List CutPart) (old new : Standing) (look next : Look) (is : IsLook rows old look) (lowers : look.best.greatest < look.greatest)
    (owners : new.owners.items ≡ moved old.owners.items look.best) (same : length new.costs.items ≡ length old.costs.items) (many : length old.costs.items ≡ length parts) where
  pub falls : IsLook rows new next → next.greatest < look.greatest
  falls then =
      let behind = (is.best lowers).is_move.greatest in
      let now = subst (λ n. IsGreatest (cone_of rows) n (moved old.owners.items look.best) next.greatest) same
      (subst (λ o. IsGreatest (cone_of rows) (length new.costs.items) o next.greatest) owners then.greatest) in
      omega (arith, greatest_one (cone_of rows) (length old.costs.items) (moved old.owners.items look.best) next.greatest look.best.greatest now behind, lowers)

  pub way_on : IsUnderWay rows count parts old.owners.items → IsUnderWay rows count parts new.owners.items
  way_on way = record {
    first = way.first;
    firsts = way.firsts;
    refines = λ last least r. way.refines last least
        (improved look.greatest least look.best
        (subst (λ n. IsGreatest (cone_of rows) n old.owners.items look.greatest) many is.greatest)
        (subst (λ n. IsBest (cone_of rows) n old.owners.items look.greatest look.best) many (is.best lowers))
        (subst (λ o. Refines (cone_of rows) (length parts) o last least) owners r));
  }

-- What the net gives.
module _ (net : Net) (watch : List ℕ) (rows : NetRows) (er : reads_in rows ≡ read_rows net) (en : needs_in rows ≡ need_rows net (sinks net watch)) where
  pub leaves_long : rows.leaves ≡ length net.leaves
  leaves_long = omega (arith, reads_long rows, ap length er, read_rows_long net)

  pub sinks_long : length rows.needed.items ≡ length (sinks net watch)
  sinks_long = omega (arith, needs_long rows, ap length en, need_rows_long net (sinks net watch))

  pub rows_are : AreNetRows rows → length net.leaves < 2 ^ 32 → length (sinks net watch) < 2 ^ 32 → AreConeRows rows
  rows_are are few few_sinks = record { few = omega (arith, leaves_long, few); few_sinks = omega (arith, sinks_long, few_sinks); are = are }

  pub rows_sized : (sequence : List ℕ) (workers : ℕ) (start : Cut) → IsCut (record { net = net; sequence = sequence }) watch workers start → AreSized (cone_of rows) (length rows.needed.items)
  rows_sized sequence workers start is k lt = (
    is.are_placed.size k,
    counts_same (InConeOf net watch k) (ConeAt (reads_in rows) (needs_in rows) k) (is.are_placed.size k) (cone_to net watch (reads_in rows) (needs_in rows) er en k)
        (cone_from net watch (reads_in rows) (needs_in rows) er en k) (is.are_placed.sizes k (omega (arith, lt, sinks_long))),
  )

-- The end.
module _ (ordered : Ordered) (watch : List ℕ) (start : Cut) (order : IsOrder ordered.net ordered.sequence) (rows : NetRows) (er : reads_in rows ≡ read_rows ordered.net) (en : needs_in rows ≡ need_rows ordered.net (sinks ordered.net watch))
    (standing : Standing) (look : Look) (stands : Stands rows standing) (many : length standing.costs.items ≡ length start.parts) (is : IsLook rows standing look) (none : look.greatest ≤ look.best.greatest)
    (way : IsUnderWay rows (length (sinks ordered.net watch)) start.parts standing.owners.items) (parts : List CutPart) (are : parts ≡ parts_by standing.owners.items standing.masks.items ordered.sequence (length start.parts)) where
  to : (k x : ℕ) → InConeOf ordered.net watch k x → cone_of rows k x
  to = cone_to ordered.net watch (reads_in rows) (needs_in rows) er en

  from : (k x : ℕ) → cone_of rows k x → InConeOf ordered.net watch k x
  from = cone_from ordered.net watch (reads_in rows) (needs_in rows) er en

  long : length standing.owners.items ≡ length (sinks ordered.net watch)
  long = stands.long ∙ sinks_long ordered.net watch rows er en

  standing_is : IsStanding (ConeAt (reads_in rows) (needs_in rows)) (length (reads_in rows)) (length start.parts) standing.owners.items standing.masks.items standing.costs.items
  standing_is = subst (λ m. IsStanding (cone_of rows) m (length start.parts) standing.owners.items standing.masks.items standing.costs.items) (sym (reads_long rows))
      (subst (λ n. IsStanding (cone_of rows) rows.leaves n standing.owners.items standing.masks.items standing.costs.items) many stands.is)

  ending : Refines (cone_of rows) (length start.parts) standing.owners.items standing.owners.items look.greatest
  ending = ended look.greatest (subst (λ n. IsGreatest (cone_of rows) n standing.owners.items look.greatest) many is.greatest)
      (subst (λ n. NoneLowers (cone_of rows) n standing.owners.items look.greatest) many (is.none none))

  pub is_refined : IsRefined ordered watch start (record { cut = record { parts = parts; needed = start.needed }; greatest = look.greatest; table = look.table })
  is_refined = record {
    first = way.first;
    firsts = way.firsts;
    owners = standing.owners.items;
    refines = refines_lift (cone_of rows) (InConeOf ordered.net watch) from to (length start.parts) way.first standing.owners.items look.greatest (way.refines standing.owners.items look.greatest ending);
    count = parts_long ordered.net watch ordered.sequence order (reads_in rows) (needs_in rows) er en (length start.parts) standing.owners.items standing.masks.items standing.costs.items standing_is long parts are;
    of_owners = owners_are ordered.net watch ordered.sequence order (reads_in rows) (needs_in rows) er en (length start.parts) standing.owners.items standing.masks.items standing.costs.items standing_is long parts are;
    unions = unions_are ordered.net watch ordered.sequence order (reads_in rows) (needs_in rows) er en (length start.parts) standing.owners.items standing.masks.items standing.costs.items standing_is long parts are;
    needed = refl;
    table = table_lift (cone_of rows) (InConeOf ordered.net watch) from to (length start.parts) standing.owners.items look.greatest look.table
        (subst (λ n. IsTable (cone_of rows) n standing.owners.items look.greatest look.table) many is.table);
  }
