-- What is found, and what is written of it.
use Rattle.std.proofs.Common.{◌≡◌, ℕ, ◌+◌, ◌<◌, List, [], ◌∷◌, map, length, sum, Some, refl, sym, ap, ap₂, ◌∙◌, arith, length-append}
use Rattle.std.specs.Prelude.{All, slice_get}
use Rattle.std.specs.List.{AllZip}
use Rattle.std.proofs.lemmas.List.{length-map}
use Rattle.std.proofs.lemmas.List.FromFn.{length-map-range_with_len}
use Rattle.std.proofs.lemmas.List.Elements.{All-nil, All-cons}
use Rattle.std.proofs.lemmas.List.Concat.{flat_map-cons}
use Rattle.std.proofs.lemmas.List.Sums.{sum_by-cons}
use Rattle.std.proofs.lemmas.Option.{same_Some}
use Rattle.bit_words.specs.declared.value.Value.{Value}
use Rattle.fir_tree.specs.LeafNames.{Texts}
use Rattle.fir_tree.specs.declared.print.PrintItem.{PrintItem}
use Rattle.item_lines.specs.Formats.{shows}
use Rattle.item_lines.specs.Items.{argument_name, number_in}
use Rattle.fir_meaning.specs.Components.{Design}
use Rattle.net_of_circuit.specs.FlatOrder.{Standing}
use Rattle.print_stop.specs.Printing.{PathItem}
use Rattle.print_stop.specs.Logging.{places, IsLogRow}
use Rattle.found_items.specs.declared.found.ItemAt.{ItemAt}
use Rattle.found_items.specs.Finding.{IsFound, IsLeafNumber, item_texts}
use Rattle.fir_meaning.specs.Components.{design_of}
use Rattle.net_of_circuit.specs.FlatOrder.{all_leaves}
use Rattle.circuit_run.specs.Traces.{all_inputs}
use Rattle.print_stop.specs.Logging.{log_telling}
use Rattle.print_stop.specs.Logs.{IsLogOf}
use Rattle.circuit_texts.specs.Watched.{watch_of, ArePrints}
use Rattle.circuit_texts.proofs.Told.{told, some_prints}
use Rattle.circuit_texts.proofs.Shaped.{numbers_below}
use Rattle.circuit_texts.proofs.Existing.{some_found}
use Rattle.circuit_texts.proofs.Logged.{some_text, log_of_run}
use Rattle.circuit_texts.specs.declared.logging.LogPlan.{LogPlan}
use Rattle.circuit_texts.specs.LogPlans.{CanLog}

module _ (texts : Texts) (design : Design) (prints : List PrintItem) (all : List Standing) where
  abbrev There : ItemAt → Type 0
  There it = (print : PrintItem) × (slice_get prints it.item ≡ Some print)

  pub all_there : (items : List PathItem) (found : List ItemAt) → AllZip (IsFound texts design prints all) items found → All There found
  all_there [] [] h = All-nil There
  all_there [] (f ∷ found) h = absurd h
  all_there (item ∷ items) [] h = absurd h
  all_there (item ∷ items) (f ∷ found) h = All-cons There f found (h.0.print, h.0.there) (all_there items found h.1)

  zip_long : {A B : Type 0} (P : A → B → Type 0) (xs : List A) (ys : List B) → AllZip P xs ys → length xs ≡ length ys
  zip_long P [] [] h = refl
  zip_long P [] (y ∷ ys) h = absurd h
  zip_long P (x ∷ xs) [] h = absurd h
  zip_long P (x ∷ xs) (y ∷ ys) h = let rest = zip_long P xs ys h.1 in omega (arith, rest)

  -- an item has as many leaves as places in a row
  pub watch_long : (items : List PathItem) (found : List ItemAt) (ps : List PrintItem) → AllZip (IsFound texts design prints all) items found → ArePrints prints found ps → length (watch_of found) ≡ sum (map places ps)
  watch_long [] [] [] h q = refl
  watch_long [] [] (p ∷ ps) h q = absurd q
  watch_long [] (f ∷ found) ps h q = absurd h
  watch_long (item ∷ items) [] ps h q = absurd h
  watch_long (item ∷ items) (f ∷ found) [] h q = absurd q
  watch_long (item ∷ items) (f ∷ found) (p ∷ ps) h q =
      let rest = watch_long items found ps h.1 q.1 in
      let same : h.0.print ≡ p = same_Some h.0.print p (sym h.0.there ∙ q.0) in
      let own = zip_long (λ text x. IsLeafNumber all item.path (number_in texts text) x) (item_texts h.0.print) f.leaves h.0.leaves in
      let args = length-map-range_with_len (argument_name h.0.print.number) 0 (shows h.0.print.pieces) in
      let its : shows h.0.print.pieces ≡ shows p.pieces = ap (λ (x : PrintItem). shows x.pieces) same in
      let whole : length (watch_of (f ∷ found)) ≡ length f.leaves + length (watch_of found) = ap (λ (l : List ℕ). length l) (flat_map-cons (λ (it : ItemAt). it.leaves) f found) ∙ length-append f.leaves (watch_of found) in
      let one : length f.leaves ≡ shows p.pieces + 1 = omega (arith, own, args, its) in
      let step : sum (map places (p ∷ ps)) ≡ places p + sum (map places ps) = sum_by-cons (λ n. n) (places p) (map places ps) in
      whole ∙ ap₂ (λ a b. a + b) one rest ∙ sym step

  pub row_fits : (items : List PathItem) (found : List ItemAt) (ps : List PrintItem) → AllZip (IsFound texts design prints all) items found → ArePrints prints found ps → (rho : ℕ → Value) → IsLogRow ps (map rho (watch_of found))
  row_fits items found ps h q rho = length-map (watch_of found) rho ∙ watch_long items found ps h q

-- The leaves of a run that may be logged are few.
pub few_leaves : (plan : LogPlan) (can : CanLog plan) → length (all_leaves can.serves.of.placed) < 4294967296
few_leaves plan can = let small = can.small in let counted = can.serves.of.is.counted in omega (arith, small, counted)

-- A run that may be logged has a log.
pub some_log : (plan : LogPlan) (can : CanLog plan) → (bytes : List ℕ)
    × IsLogOf plan.fitted.now.checked.resolved.names (design_of plan.fitted.now) plan.fitted.now.checked.resolved.prints (all_inputs (design_of plan.fitted.now) plan.stimulus.now) bytes
some_log plan can =
    let texts = plan.fitted.now.checked.resolved.names in
    let design = design_of plan.fitted.now in
    let prints = plan.fitted.now.checked.resolved.prints in
    let f = some_found texts design plan.ordered.now.net can.serves prints can.items in
    let ps = some_prints texts design prints (all_leaves can.serves.of.placed) f.1 f.0 f.3 in
    let text = some_text plan.ordered.now plan.ports.now plan.stimulus.now (watch_of f.0) (log_telling ps.0) can.planned in
    (text.0, log_of_run texts design prints plan.ordered.now can.serves f.1 f.0 ps.0 f.2 f.3 ps.1 plan.ports.now plan.stimulus.now can.planned text.0 text.1)

pub below_of : (plan : LogPlan) (can : CanLog plan) (items : List PathItem) (found : List ItemAt)
    → AllZip (IsFound plan.fitted.now.checked.resolved.names (design_of plan.fitted.now) plan.fitted.now.checked.resolved.prints (all_leaves can.serves.of.placed)) items found
    → All (λ x. x < length plan.ordered.now.net.leaves) (watch_of found)
below_of plan can items found h =
    let texts = plan.fitted.now.checked.resolved.names in
    let design = design_of plan.fitted.now in
    let it = told texts design plan.fitted.now.checked.resolved.prints (all_leaves can.serves.of.placed) items found h in
    numbers_below texts design plan.ordered.now.net can.serves plan.ordered.now.sequence can.planned.order (watch_of found) it.leaves it.stand
