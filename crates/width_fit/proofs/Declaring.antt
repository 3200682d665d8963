-- What declarations and conditions add.
use Rattle.std.proofs.Common.{◌≡◌, ℕ, ◌+◌, Bool, List, [], ◌∷◌, ◌++◌, map, length, refl, sym, ap, ap₂, ◌∙◌, arith, append_assoc, append-nil, length-append}
use Rattle.std.specs.List.{list_any}
use Rattle.std.proofs.lemmas.List.{length-replicate}
use Rattle.place_text.specs.declared.place.Place.{Place}
use Rattle.prim_ops.specs.declared.widths.Width.{Width}
use Rattle.fir_types.specs.declared.fir_type.FirType.{FirType}
use Rattle.fir_types.specs.declared.memory.Memory.{Memory}
use Rattle.fir_types.specs.declared.name.Name.{Name}
use Rattle.fir_types.specs.Memories.{element_of}
use Rattle.fir_types.specs.Bundles.{memory_of}
use Rattle.fir_tree.specs.declared.expr.Expr.{Expr}
use Rattle.fir_tree.specs.declared.part.Part.{Part}
use Rattle.fir_tree.specs.declared.part.Flow.TheVariants.{Duplex}
use Rattle.fir_tree.specs.Parts.{part_of, source_of}
use Rattle.width_rules.specs.declared.slot.Slot.{Slot}
use Rattle.width_rules.specs.Places.{spots, slots_from, open_spots, node_slots, node_size}
use Rattle.width_rules.specs.declared.component.Component.{Component}
use Rattle.width_rules.specs.Sources.{Known, component, known_with}
use Rattle.width_rules.specs.Circuits.{places_for, memory_slots}
use Rattle.width_fit.specs.declared.fault.WidthFault.{WidthFault}
use Rattle.width_fit.specs.declared.fault.WidthFault.TheVariants.{WidthUnknown, WidthOver}
use Rattle.width_fit.specs.declared.found.Findings.{Findings}
use Rattle.width_fit.specs.declared.found.Surveyed.{Surveyed}
use Rattle.width_fit.specs.declared.walk.Walk.{Walk}
use Rattle.type_filling.specs.Filling.{filled}
use Rattle.width_fit.specs.Judging.{Solved, survey, slot_width, is_over, is_unknown, where_, component_faults, condition_faults, asks, of_storage, of_memory, of_node}
use Rattle.width_fit.specs.Surveys.{kept, condition_over, Adds}
use Rattle.part_fits.specs.Fits.{Fits}
use Rattle.width_fit.specs.Walks.{Walks, of_instance_among}
use Rattle.width_fit.proofs.Formulas.{lone-kept}
use Rattle.width_fit.proofs.Measured.{same_measured}

pub any-map : {A B : Type 0} (p : B → Bool) (f : A → B) (xs : List A) → list_any p (map f xs) ≡ list_any (λ x. p (f x)) xs
any-map p f [] = refl
any-map p f (x ∷ xs) = grind (arith, any-map p f xs)

pub component_told : (all : Solved) (place : Place) (slots : List Slot) (widths : List Width) (unknown : Bool) (old between new : List WidthFault) → unknown ≡ list_any (is_unknown all.rules) slots
    → widths ≡ map (slot_width all.widths) slots → between ≡ old ++ where_ unknown (WidthUnknown place) → new ≡ between ++ where_ (list_any is_over widths) (WidthOver place)
    → new ≡ old ++ component_faults all place slots
component_told all place slots widths unknown old between new u w b n =
    n ∙ ap₂ (λ l o. l ++ where_ o (WidthOver place)) (b ∙ ap (λ k. old ++ where_ k (WidthUnknown place)) u) (ap (list_any is_over) w ∙ any-map is_over (slot_width all.widths) slots)
    ∙ append_assoc old _ _

counted : (a b : Walk) (place : Place) (k : ℕ) → b.places.items ≡ a.places.items ++ places_for place k → length b.places.items ≡ length a.places.items + k
counted a b place k is = ap length is ∙ length-append a.places.items (places_for place k) ∙ ap (λ n. length a.places.items + n) (length-replicate k place)

pub storage_walks : (all : Solved) (name : Name) (typ : FirType) (slots : List Slot) (fitted : FirType) (part : Part) (a b : Walk) → slots ≡ slots_from (length a.places.items) (spots typ)
    → b.places.items ≡ a.places.items ++ places_for name.place (open_spots (spots typ)) → fitted ≡ filled typ (map (slot_width all.widths) slots)
    → b.declared.items ≡ a.declared.items ++ fitted ∷ [] → b.found.nodes.items ≡ a.found.nodes.items → b.found.faults.items ≡ a.found.faults.items ++ component_faults all name.place slots
    → part ≡ part_of typ Duplex → b.known.entries ≡ known_with a.known.entries name.id (record { part = part; slots = slots }) → Walks (of_storage all name typ) a b
storage_walks all name typ slots fitted part a b s p fit d n f is k = record {
  known = k ∙ ap₂ (λ part slots. known_with a.known.entries name.id (record { part = part; slots = slots })) is s;
  count = counted a b name.place (open_spots (spots typ)) p;
  declared = d ∙ ap (λ t. a.declared.items ++ t ∷ []) (fit ∙ ap (λ slots. filled typ (map (slot_width all.widths) slots)) s);
  nodes = n ∙ sym (append-nil _);
  faults = f ∙ ap (λ slots. a.found.faults.items ++ component_faults all name.place slots) s;
}

pub memory_walks : (all : Solved) (memory : Memory) (element slots : List Slot) (typ fitted : FirType) (part : Part) (a b : Walk) → element ≡ slots_from (length a.places.items) (spots (element_of memory))
    → slots ≡ memory_slots memory (slots_from (length a.places.items) (spots (element_of memory)))
    → b.places.items ≡ a.places.items ++ places_for memory.name.place (open_spots (spots (element_of memory))) → typ ≡ memory_of memory → fitted ≡ filled typ (map (slot_width all.widths) slots)
    → b.declared.items ≡ a.declared.items ++ fitted ∷ [] → b.found.nodes.items ≡ a.found.nodes.items → b.found.faults.items ≡ a.found.faults.items ++ component_faults all memory.name.place element
    → part ≡ source_of typ → b.known.entries ≡ known_with a.known.entries memory.name.id (record { part = part; slots = slots }) → Walks (of_memory all memory) a b
memory_walks all memory element slots typ fitted part a b e s p t fit d n f is k = record {
  known = k ∙ ap₂ (λ part slots. known_with a.known.entries memory.name.id (record { part = part; slots = slots })) (is ∙ ap source_of t) s;
  count = counted a b memory.name.place (open_spots (spots (element_of memory))) p;
  declared = d ∙ ap (λ t. a.declared.items ++ t ∷ []) (fit ∙ ap₂ (λ typ slots. filled typ (map (slot_width all.widths) slots)) t s);
  nodes = n ∙ sym (append-nil _);
  faults = f ∙ ap (λ slots. a.found.faults.items ++ component_faults all memory.name.place slots) e;
}

pub node_walks : (all : Solved) (name : Name) (e : Expr) (held : Surveyed) (mid : Findings) (slots : List Slot) (fitted : FirType) (part : Part) (a b : Walk) → held ≡ kept all.widths (survey all.widths e a.known.entries)
    → Adds (survey all.widths e a.known.entries) a.found mid → slots ≡ node_slots (length a.places.items) held.part.typ
    → b.places.items ≡ a.places.items ++ places_for name.place (node_size held.part.typ) → fitted ≡ filled held.part.typ (map (slot_width all.widths) slots)
    → b.declared.items ≡ a.declared.items ++ fitted ∷ [] → b.found.nodes.items ≡ mid.nodes.items → b.found.faults.items ≡ mid.faults.items ++ component_faults all name.place slots
    → part ≡ source_of held.part.typ → b.known.entries ≡ known_with a.known.entries name.id (record { part = part; slots = slots }) → Walks (of_node all name e) a b
node_walks all name e held mid slots fitted part a b h adds s p fit d n f is k =
    let found = survey all.widths e a.known.entries in
    let count = length a.places.items in
    let t : held.part.typ ≡ found.measured.part.typ = ap (λ held. held.part.typ) h in
    let own : slots ≡ node_slots count found.measured.part.typ = s ∙ ap (node_slots count) t in
    record {
      known = k ∙ ap₂ (λ part slots. known_with a.known.entries name.id (record { part = part; slots = slots })) (is ∙ ap source_of t) own
          ∙ ap (λ m. known_with a.known.entries name.id (record { part = source_of m.part.typ; slots = node_slots count m.part.typ })) (same_measured all.widths e a.known.entries);
      count = counted a b name.place (node_size held.part.typ) p ∙ ap (λ typ. count + node_size typ) t;
      declared = d ∙ ap (λ t. a.declared.items ++ t ∷ []) (fit ∙ ap₂ (λ typ slots. filled typ (map (slot_width all.widths) slots)) t own);
      nodes = n ∙ adds.nodes;
      faults = f ∙ ap₂ (λ l slots. l ++ component_faults all name.place slots) adds.faults own ∙ append_assoc a.found.faults.items _ _;
    }

pub asks_walks : (ws : List Width) (e : Expr) (held : Surveyed) (widths : List Width) (mid : Findings) (a b : Walk) → held ≡ kept ws (survey ws e a.known.entries) → Adds (survey ws e a.known.entries) a.found mid
    → b.known.entries ≡ a.known.entries → b.places.items ≡ a.places.items → b.declared.items ≡ a.declared.items → b.found.nodes.items ≡ mid.nodes.items → widths ≡ held.widths
    → b.found.faults.items ≡ mid.faults.items ++ condition_over held.place widths → Walks (asks ws e) a b
asks_walks ws e held widths mid a b h adds k p d n w f =
    let found = survey ws e a.known.entries in
    let told : condition_over held.place held.widths ≡ condition_faults ws found
    = ap (λ held. condition_over held.place held.widths) h ∙ ap (λ w. condition_over found.place (w ∷ [])) (lone-kept ws found) in
    record {
      known = k;
      count = ap length p ∙ (let c : length a.places.items ≡ length a.places.items + 0 = omega arith in c);
      declared = d ∙ sym (append-nil _);
      nodes = n ∙ adds.nodes;
      faults = f ∙ ap₂ (λ l o. l ++ o) adds.faults (ap (condition_over held.place) w ∙ told) ∙ append_assoc a.found.faults.items found.faults (condition_faults ws found);
    }

pub instance_walks : (all : Solved) (instances : Known) (name target : Name) (sized : Component) (typ : FirType) (over : Bool) (a b : Walk) → sized ≡ component instances target.id
    → Fits all.widths (component instances target.id) typ over → b.places.items ≡ a.places.items → b.declared.items ≡ a.declared.items ++ typ ∷ [] → b.found.nodes.items ≡ a.found.nodes.items
    → b.found.faults.items ≡ a.found.faults.items → b.known.entries ≡ known_with a.known.entries name.id sized → Walks (of_instance_among all instances name target) a b
instance_walks all instances name target sized typ over a b is fit p d n f k = record {
  known = k ∙ ap (known_with a.known.entries name.id) is;
  count = ap length p ∙ (let c : length a.places.items ≡ length a.places.items + 0 = omega arith in c);
  declared = d ∙ ap (λ t. a.declared.items ++ t ∷ []) fit.typ_is;
  nodes = n ∙ sym (append-nil _);
  faults = f ∙ sym (append-nil _);
}
