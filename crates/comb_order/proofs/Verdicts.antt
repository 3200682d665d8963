-- The answers of an order are verdicts.
use Rattle.std.proofs.Common.{◌≡◌, slice_get, Some, refl, sym, ap, ◌∙◌, arith, ⊎_elim}
use Rattle.std.specs.Prelude.{Err}
use Rattle.std.proofs.lemmas.Bool.{cases_eq, cases_lt}
use Rattle.place_text.specs.declared.place.Place.{Place}
use Rattle.place_text.specs.Order.{Precedes, by_rank}
use Rattle.place_text.specs.First.{IsFirst, HasNone}
use Rattle.place_text.specs.Verdicts.{IsVerdict}
use Rattle.place_text.proofs.Verdicts.{refuses_by, wants_memory}
use Rattle.ground_net.specs.declared.net.Net.{Net}
use Rattle.ground_net.specs.declared.net.Leaf.{Leaf}
use Rattle.ground_net.specs.Reads.{IsFirstLoop, HasNoLoop}
use Rattle.comb_order.specs.declared.fault.OrderFault.{OrderFault}
use Rattle.comb_order.specs.declared.fault.OrderFault.TheVariants.{CombLoop, NoMemory}
use Rattle.comb_order.specs.Faults.{IsFault, comb_loop, IsOrdered, place_of, rank_of}
use Rattle.comb_order.specs.Ranks.{one_each}

-- there is one first leaf on a loop
one_first_loop : (net : Net) (here other : Place) → IsFirstLoop net here → IsFirstLoop net other → here ≡ other
one_first_loop net here other a b = ⊎_elim
    (λ e. sym a.is ∙ ap (λ leaf. leaf.place) (of_some a.leaf b.leaf (sym a.there ∙ ap (λ x. slice_get net.leaves x) e ∙ b.there)) ∙ b.is)
    (λ n. ⊎_elim (λ less. absurd (b.first a.at less a.here)) (λ more. absurd (a.first b.at (omega (arith, n)) b.here)) (cases_lt a.at b.at))
    (cases_eq a.at b.at)
  where
    of_some : (x y : Leaf) → Some x ≡ Some y → x ≡ y
    of_some x y e = cc

first_fault : (net : Net) (place : Place) → IsFirstLoop net place → IsFirst place_of rank_of (IsFault net) (CombLoop place)
first_fault net place loop = record { is = comb_loop place loop; first = λ other has. before other has }
  where
    before : (other : OrderFault) → IsFault net other → Precedes place_of rank_of (CombLoop place) other
    before (CombLoop there) (comb_loop _ other) =
        let same : place ≡ there = one_first_loop net place there loop other in
        by_rank (ap (λ p. p.line) same) (ap (λ p. p.column) same) (omega arith)
    before NoMemory has = elim has [ ]

pub refused : (net : Net) (fault : OrderFault) → ((place : Place) → fault ≡ CombLoop place → IsFirstLoop net place) → IsVerdict place_of rank_of (IsFault net) (IsOrdered net) (Err fault)
refused net (CombLoop place) h = refuses_by one_each (CombLoop place) (first_fault net place (h place refl))
refused net NoMemory h = wants_memory NoMemory refl

pub has_none : (net : Net) → HasNoLoop net → HasNone (IsFault net)
has_none net none (CombLoop place) (comb_loop _ loop) = none.none loop.at loop.here
has_none net none NoMemory has = elim has [ ]
