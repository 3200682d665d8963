-- The fields of a memory's port, by their numbers.
use Rattle.std.proofs.Common.{◌≡◌, ℕ, zero, suc, ◌+◌, ◌==◌, eqb, ◌<◌, ◌≤◌, ◌⊎◌, inl, inr, Bool, true, false, find, List, [], ◌∷◌, Some, None, refl, sym, ap, ◌∙◌, subst, arith, cond}
use Rattle.std.specs.List.{AllByRecursion}
use Rattle.std.proofs.lemmas.Bool.{ne_eqb, eqb-true, eqb-false}
use Rattle.place_text.specs.declared.place.Place.{Place}
use Rattle.fir_types.specs.declared.fir_type.Field.{Field}
use Rattle.fir_types.specs.declared.memory.Memory.{Memory}
use Rattle.fir_types.specs.declared.memory.PortMode.{PortMode}
use Rattle.fir_types.specs.declared.memory.PortMode.TheVariants as mode
use Rattle.fir_types.specs.Bundles.{mask_of, address_bits, addr_name, en_name, clk_name, plain_field, uint_at, clock_at, fields_of_mode}
use Rattle.fir_types.specs.Memories.{element_of, depth_of}
use Rattle.fir_tree.specs.declared.part.Flow.TheVariants.{Source, Sink}
use Rattle.fir_tree.specs.declared.part.Part.{Part}
use Rattle.fir_tree.specs.Parts.{part_of, field_part}
use Rattle.reference_flow.specs.Reached.{IsPlain, port_part}
use Rattle.reference_flow.proofs.Stepping.{field-bundle, field-found, plain-unsigned, plain-clock}

-- the fields of a port
abbrev fields_of_port : Memory → PortMode → Place → List Field
fields_of_port memory m place =
    plain_field place addr_name (uint_at place (address_bits (depth_of memory))) ∷ plain_field place en_name (uint_at place 1)
    ∷ plain_field place clk_name (clock_at place) ∷ fields_of_mode place (element_of memory) m

-- no field has the name
not_there : (fields : List Field) (name : ℕ) → AllByRecursion (λ f. (f.name.id == name) ≡ false) fields → find (λ f. f.name.id == name) fields ≡ None
not_there [] name all = refl
not_there (f ∷ fs) name all = ap (λ b. cond b (Some f) (find (λ x. x.name.id == name) fs)) all.0 ∙ not_there fs name all.1

-- what has the flow and no parts
abbrev pub IsSignal : Part → Type 0
IsSignal part = (part.flow ≡ Sink) × IsPlain part

first_three : (memory : Memory) (m : PortMode) (place : Place) (id : ℕ) → id ≤ 2 → IsSignal (field_part id (port_part memory m place))
first_three memory m place zero l =
    let e = field-bundle (port_part memory m place) (fields_of_port memory m place) 0 refl in
    subst IsSignal (sym e) (refl, plain-unsigned _ _ refl)
first_three memory m place (suc zero) l =
    let e = field-bundle (port_part memory m place) (fields_of_port memory m place) 1 refl in
    subst IsSignal (sym e) (refl, plain-unsigned _ _ refl)
first_three memory m place (suc (suc zero)) l =
    let e = field-bundle (port_part memory m place) (fields_of_port memory m place) 2 refl in
    subst IsSignal (sym e) (refl, plain-clock _ refl)
first_three memory m place (suc (suc (suc n))) l = absurd (omega arith)

pub field-signal : (memory : Memory) (m : PortMode) (id : ℕ) → id ≤ 2 → (place : Place) → IsSignal (field_part id (port_part memory m place))
field-signal memory m id l place = first_three memory m place id l

pub reader-data : (memory : Memory) (place : Place) → field_part 3 (port_part memory mode.Reader place) ≡ part_of (element_of memory) Source
reader-data memory place = field-bundle (port_part memory mode.Reader place) (fields_of_port memory mode.Reader place) 3 refl

pub reader-none : (memory : Memory) (place : Place) (id : ℕ) → 3 < id → field_part id (port_part memory mode.Reader place) ≡ port_part memory mode.Reader place
reader-none memory place id l =
    field-found (port_part memory mode.Reader place) (fields_of_port memory mode.Reader place) id None refl
    (not_there (fields_of_port memory mode.Reader place) id (ne_eqb 0 id (omega arith), (ne_eqb 1 id (omega arith), (ne_eqb 2 id (omega arith), (ne_eqb 3 id (omega arith), tt)))))

pub writer-data : (memory : Memory) (place : Place) → field_part 3 (port_part memory mode.Writer place) ≡ part_of (element_of memory) Sink
writer-data memory place = field-bundle (port_part memory mode.Writer place) (fields_of_port memory mode.Writer place) 3 refl

pub writer-mask : (memory : Memory) (place : Place) → field_part 4 (port_part memory mode.Writer place) ≡ part_of (mask_of (element_of memory)) Sink
writer-mask memory place = field-bundle (port_part memory mode.Writer place) (fields_of_port memory mode.Writer place) 4 refl

pub writer-none : (memory : Memory) (place : Place) (id : ℕ) → 4 < id → field_part id (port_part memory mode.Writer place) ≡ port_part memory mode.Writer place
writer-none memory place id l =
    field-found (port_part memory mode.Writer place) (fields_of_port memory mode.Writer place) id None refl
    (not_there (fields_of_port memory mode.Writer place) id (ne_eqb 0 id (omega arith), (ne_eqb 1 id (omega arith), (ne_eqb 2 id (omega arith), (ne_eqb 3 id (omega arith), (ne_eqb 4 id (omega arith), tt))))))

pub read_writer-rdata : (memory : Memory) (place : Place) → field_part 5 (port_part memory mode.ReadWriter place) ≡ part_of (element_of memory) Source
read_writer-rdata memory place = field-bundle (port_part memory mode.ReadWriter place) (fields_of_port memory mode.ReadWriter place) 5 refl

pub read_writer-wmode : (memory : Memory) (place : Place) → IsSignal (field_part 6 (port_part memory mode.ReadWriter place))
read_writer-wmode memory place =
    let e = field-bundle (port_part memory mode.ReadWriter place) (fields_of_port memory mode.ReadWriter place) 6 refl in
    subst IsSignal (sym e) (refl, plain-unsigned _ _ refl)

pub read_writer-wdata : (memory : Memory) (place : Place) → field_part 7 (port_part memory mode.ReadWriter place) ≡ part_of (element_of memory) Sink
read_writer-wdata memory place = field-bundle (port_part memory mode.ReadWriter place) (fields_of_port memory mode.ReadWriter place) 7 refl

pub read_writer-wmask : (memory : Memory) (place : Place) → field_part 8 (port_part memory mode.ReadWriter place) ≡ part_of (mask_of (element_of memory)) Sink
read_writer-wmask memory place = field-bundle (port_part memory mode.ReadWriter place) (fields_of_port memory mode.ReadWriter place) 8 refl

pub read_writer-none : (memory : Memory) (place : Place) (id : ℕ) → 2 < id → (id < 5) ⊎ (8 < id)
    → field_part id (port_part memory mode.ReadWriter place) ≡ port_part memory mode.ReadWriter place
read_writer-none memory place id l h =
    field-found (port_part memory mode.ReadWriter place) (fields_of_port memory mode.ReadWriter place) id None refl
    (not_there (fields_of_port memory mode.ReadWriter place) id (
      ne_eqb 0 id (omega arith),
      (
        ne_eqb 1 id (omega arith),
        (
          ne_eqb 2 id (omega arith),
          (ne_eqb 5 id (omega arith), (ne_eqb 6 id (omega arith), (ne_eqb 7 id (omega arith), (ne_eqb 8 id (omega arith), tt)))),
        ),
      ),
    ))

-- the next two numbers
pub one_of_two : (n id : ℕ) → n ≤ id → id < n + 2 → (id ≡ n) ⊎ (id ≡ n + 1)
one_of_two n id l h = by (eqb id n) refl
  where
    by : (b : Bool) → eqb id n ≡ b → (id ≡ n) ⊎ (id ≡ n + 1)
    by true e = inl (eqb-true id n e)
    by false e = let ne = eqb-false id n e in inr (omega arith)
