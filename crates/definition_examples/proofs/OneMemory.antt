-- A cycle of the design with a memory.
use Rattle.std.proofs.Common.{◌≡◌, ◌≢◌, ℕ, true, false, not, List, [], ◌∷◌, Some, refl, sym, ap, ◌∙◌, subst, arith, true≢false, ℤ, pos, drop}
use Rattle.std.specs.Prelude.{Contains}
use Rattle.std.proofs.lemmas.Grind.{common_steps}
use Rattle.fir_types.specs.declared.fir_type.FirType.{FirType, the_lemmas as type_lemmas}
use Rattle.fir_types.specs.declared.leaf.TypeLeaf.{TypeLeaf}
use Rattle.fir_types.specs.declared.leaf.PathStep.{PathStep}
use Rattle.fir_types.specs.declared.leaf.PathStep.TheVariants as step
use Rattle.fir_types.specs.declared.memory.Memory.{Memory}
use Rattle.fir_types.specs.Leaves.{leaves}
use Rattle.fir_types.specs.Memories.{read_latency_of}
use Rattle.fir_types.specs.Bundles.{addr_name, en_name, clk_name, data_name, mask_name, address_bits, least_reaching, memory_of}
use Rattle.fir_tree.specs.declared.expr.Expr.{the_lemmas as expr_lemmas}
use Rattle.fir_tree.specs.declared.stmt.Stmt.{the_lemmas as stmt_lemmas}
use Rattle.fir_meaning.specs.Components.{TypedModule, Component, Sort, A_memory, flow_of, is_clock, module_at, component_named}
use Rattle.fir_meaning.specs.Values.{Valuation, scene_of}
use Rattle.fir_meaning.specs.Drives.{drives}
use Rattle.fir_meaning.specs.MemoryPorts.{Contents, after_writes, read_by}
use Rattle.fir_meaning.specs.States.{State, Stands, Settled, next, is_register, is_port, is_driven, is_source, seen, leaf_of}
use Rattle.definition_examples.specs.Samples.{clock_type, uint, leaf, whole_leaf}
use Rattle.definition_examples.specs.Clocks.{clock_in}
use Rattle.definition_examples.specs.Holding.{holding, holder, held, body, x, m, ports_type, nothing, in_ports, reading}
use Rattle.definition_examples.proofs.Places.{Each, each_there, in_module, only_main}
use Rattle.definition_examples.proofs.Grounds.{clock_leaves, clock_is_clock, uint_leaves, uint_no_clock, is_node, is_memory}

-- the leaves of m

abbrev turned : ℕ → ℕ → FirType → TypeLeaf
turned port field t = record { path = step.Field port ∷ step.Field field ∷ []; flip = true; typ = t }

abbrev read_data : TypeLeaf
read_data = record { path = step.Field 28 ∷ step.Field data_name ∷ []; flip = false; typ = uint 8 }

abbrev of_memory : List TypeLeaf
of_memory =
    turned 28 addr_name (uint 2) ∷ turned 28 en_name (uint 1) ∷ turned 28 clk_name clock_type ∷ read_data ∷ turned 29 addr_name (uint 2) ∷ turned 29 en_name (uint 1) ∷ turned 29 clk_name clock_type
    ∷ turned 29 data_name (uint 8) ∷ turned 29 mask_name (uint 1) ∷ []

its_leaves : leaves ports_type ≡ of_memory
its_leaves = grind (arith, common_steps, type_lemmas)

two_bits : address_bits 4 ≡ 2
unfolding address_bits least_reaching
two_bits = refl

-- So has the bundle of the memory's ports.
pub ports_have : (latency : ℕ) → leaves ports_type ≡ leaves (memory_of (held latency))
ports_have latency = its_leaves ∙ sym of_bundle where
  of_bundle : leaves (memory_of (held latency)) ≡ of_memory
  of_bundle = grind (arith, common_steps, type_lemmas, two_bits)

number : {A : Type 0} (port field width : ℕ) → is_clock (turned port field (uint width)) ≡ true → A
number port field width e = absurd (true≢false (sym e ∙ there)) where
  there : is_clock (turned port field (uint width)) ≡ false
  there = grind (arith, common_steps, type_lemmas)

data_number : {A : Type 0} → is_clock read_data ≡ true → A
data_number e = absurd (true≢false (sym e ∙ there)) where
  there : is_clock read_data ≡ false
  there = grind (arith, common_steps, type_lemmas)

port_clock : (port field : ℕ) → is_clock (turned port field clock_type) ≡ true
port_clock port field = grind (arith, common_steps, type_lemmas)

abbrev rho : Valuation
rho = reading 4

abbrev memory_in : Sort → Memory → Memory
memory_in (A_memory memory) other = memory
memory_in _ other = other

no_memory_in : {A : Type 0} {memory : Memory} {sort : Sort} → is_memory sort ≡ false → sort ≡ A_memory memory → A
no_memory_in none e = absurd (true≢false (sym (ap is_memory e) ∙ none))

abbrev port_in : List PathStep → ℕ
port_in (step.Field port ∷ way) = port
port_in _ = 0

reads_2 : (latency : ℕ) (contents : Contents) → read_by (held latency) (in_ports 4) contents 28 [] ≡ contents 2 []
reads_2 latency contents = grind (arith, common_steps)

writes_9 : (latency : ℕ) (contents : Contents) → after_writes (held latency) (in_ports 4) contents 2 [] ≡ pos 9
writes_9 latency contents = grind (arith, common_steps)

keeps_3 : (latency : ℕ) (contents : Contents) → after_writes (held latency) (in_ports 4) contents 3 [] ≡ contents 3 []
keeps_3 latency contents = grind (arith, common_steps)

module _ (latency : ℕ) where
  abbrev Left : List PathStep → ℕ → ℤ → Type 0
  Left way c n = drives (scene_of (holder latency) [] rho) (leaf c way) (body latency) ≡ Some n

  x_left : Left [] 22 (pos 4)
  x_left = grind (arith, common_steps, stmt_lemmas, expr_lemmas, type_lemmas)

  read_addr : Left (step.Field 28 ∷ step.Field addr_name ∷ []) 27 (pos 2)
  read_addr = grind (arith, common_steps, stmt_lemmas, expr_lemmas, type_lemmas)

  read_en : Left (step.Field 28 ∷ step.Field en_name ∷ []) 27 (pos 1)
  read_en = grind (arith, common_steps, stmt_lemmas, expr_lemmas, type_lemmas)

  write_addr : Left (step.Field 29 ∷ step.Field addr_name ∷ []) 27 (pos 2)
  write_addr = grind (arith, common_steps, stmt_lemmas, expr_lemmas, type_lemmas)

  write_en : Left (step.Field 29 ∷ step.Field en_name ∷ []) 27 (pos 1)
  write_en = grind (arith, common_steps, stmt_lemmas, expr_lemmas, type_lemmas)

  write_data : Left (step.Field 29 ∷ step.Field data_name ∷ []) 27 (pos 9)
  write_data = grind (arith, common_steps, stmt_lemmas, expr_lemmas, type_lemmas)

  write_mask : Left (step.Field 29 ∷ step.Field mask_name ∷ []) 27 (pos 1)
  write_mask = grind (arith, common_steps, stmt_lemmas, expr_lemmas, type_lemmas)

  there : (P : Component → Type 0) → Each P (holder latency).components → (path : List ℕ) (n : TypedModule) (c : Component) → module_at (holding latency) path ≡ Some n
      → component_named n c.declaration.name ≡ Some c → (path ≡ []) × (n ≡ holder latency) × P c
  there P each path n c at declared =
      let place = only_main (holding latency) (holder latency) refl (refl, (refl, (refl, tt))) path n at in
      (place.0, place.1, each_there P (holder latency).components c each (in_module (holder latency) c (subst (λ y. component_named y c.declaration.name ≡ Some c) place.1 declared)))

  -- It is so of every leaf where it is so of main's clock, of x and of those of m.
  module _ (P : List ℕ → TypedModule → Component → TypeLeaf → Type 0) where
    abbrev OfAll : Component → Type 0
    OfAll c = (l : TypeLeaf) → Contains (leaves c.typ) l → P [] (holder latency) c l

    all_in : (c : Component) (ls : List TypeLeaf) → leaves c.typ ≡ ls → Each (P [] (holder latency) c) ls → OfAll c
    all_in c ls is each l among = each_there (P [] (holder latency) c) ls l each (subst (λ ys. Contains ys l) is among)

    each_leaf : P [] (holder latency) (clock_in 20 (body latency)) (whole_leaf clock_type) → P [] (holder latency) (x latency) (whole_leaf (uint 8)) → Each (P [] (holder latency) (m latency)) of_memory
        → (path : List ℕ) (n : TypedModule) (c : Component) (l : TypeLeaf) → Stands (holding latency) path n c l → P path n c l
    each_leaf of_clock of_x of_m path n c l stands =
        let own = there OfAll (
          all_in (clock_in 20 (body latency)) (whole_leaf clock_type ∷ []) clock_leaves (of_clock, tt),
          (all_in (x latency) (whole_leaf (uint 8) ∷ []) (uint_leaves 8) (of_x, tt), (all_in (m latency) of_memory its_leaves of_m, tt)),
        ) path n c stands.reached stands.declared in
        subst (λ p. P p n c l) (sym own.0) (subst (λ y. P [] y c l) (sym own.1) (own.2 l stands.listed))

  module _ (s : State) (now : latency ≡ 0 → s.contents [] 27 2 [] ≡ pos 4) (later : latency ≢ 0 → s.captured [] 27 28 [] ≡ pos 4) where
    -- where the leaf shows what this port reads, it is p's data
    abbrev ShowsNow : List ℕ → TypedModule → Component → TypeLeaf → Type 0
    ShowsNow path n c l = (memory : Memory) (port field : ℕ) (way : List PathStep) → c.declaration.sort ≡ A_memory memory → read_latency_of memory ≡ 0 → l.flip ≡ false
        → l.path ≡ step.Field port ∷ step.Field field ∷ way → seen n path rho c l ≡ read_by memory ((scene_of n path rho).integers c.declaration.name) (s.contents path c.declaration.name) port way

    abbrev ShowsLater : List ℕ → TypedModule → Component → TypeLeaf → Type 0
    ShowsLater path n c l = (memory : Memory) (port field : ℕ) (way : List PathStep) → c.declaration.sort ≡ A_memory memory → read_latency_of memory ≢ 0 → l.flip ≡ false
        → l.path ≡ step.Field port ∷ step.Field field ∷ way → seen n path rho c l ≡ s.captured path c.declaration.name port way

    data_now : ShowsNow [] (holder latency) (m latency) read_data
    data_now memory port field way sort zero unturned is =
        let same : held latency ≡ memory = ap (λ k. memory_in k (held latency)) sort in
        let named : 28 ≡ port = ap port_in is in
        let behind : [] ≡ way = ap (drop 2) is in
        sym (now (ap read_latency_of same ∙ zero)) ∙ (sym (reads_2 latency (s.contents [] 27))
        ∙ (ap (λ k. read_by k (in_ports 4) (s.contents [] 27) 28 []) same
        ∙ (ap (λ p. read_by memory (in_ports 4) (s.contents [] 27) p []) named ∙ ap (read_by memory (in_ports 4) (s.contents [] 27) port) behind)))

    data_later : ShowsLater [] (holder latency) (m latency) read_data
    data_later memory port field way sort late unturned is =
        let same : held latency ≡ memory = ap (λ k. memory_in k (held latency)) sort in
        let named : 28 ≡ port = ap port_in is in
        let behind : [] ≡ way = ap (drop 2) is in
        sym (later (λ z. late (sym (ap read_latency_of same) ∙ z))) ∙ (ap (λ p. s.captured [] 27 p []) named ∙ ap (s.captured [] 27 port) behind)

    abbrev off : {A : Type 0} → true ≡ false → A
    off e = absurd (true≢false e)

    pub settles : Settled (holding latency) s nothing (reading 4)
    settles = record {
      clocks = each_leaf (λ path n c l. is_clock l ≡ true → seen n path rho c l ≡ pos 0) (λ e. refl) (λ e. off (sym e ∙ uint_no_clock 8))
          (number 28 addr_name 2, (number 28 en_name 1, (λ e. refl, (data_number, (number 29 addr_name 2, (number 29 en_name 1, (λ e. refl, (number 29 data_name 8, (number 29 mask_name 1, tt)))))))));
      inputs = λ n c l stands.
          each_leaf (λ path n c l. is_port c.declaration.sort ≡ true → is_source (flow_of c.declaration.sort l.flip) ≡ true → is_clock l ≡ false → seen n path rho c l ≡ nothing c.declaration.name l.path)
          (λ p f k. off (sym clock_is_clock ∙ k)) (λ p f k. off (sym f))
          (λ p. off (sym p), (λ p. off (sym p), (λ p. off (sym p), (λ p. off (sym p), (λ p. off (sym p), (λ p. off (sym p), (λ p. off (sym p), (λ p. off (sym p), (λ p. off (sym p), tt)))))))))
          [] n c l stands;
      registers = each_leaf (λ path n c l. is_register c.declaration.sort ≡ true → seen n path rho c l ≡ s.registers path c.declaration.name l.path) (λ e. off (sym e)) (λ e. off (sym e))
          (λ e. off (sym e), (λ e. off (sym e), (λ e. off (sym e), (λ e. off (sym e), (λ e. off (sym e), (λ e. off (sym e), (λ e. off (sym e), (λ e. off (sym e), (λ e. off (sym e), tt)))))))));
      nodes = λ path n c e at declared sort. off (sym (ap is_node sort) ∙ (there (λ c. is_node c.declaration.sort ≡ false) (refl, (refl, (refl, tt))) path n c at declared).2);
      reads = λ path n c l memory port field way stands sort zero unturned is.
          each_leaf ShowsNow (λ k p f w sort z. no_memory_in refl sort) (λ k p f w sort z. no_memory_in refl sort) (
            λ k p f w sort z e. off e,
            (
              λ k p f w sort z e. off e,
              (
                λ k p f w sort z e. off e,
                (data_now, (λ k p f w sort z e. off e, (λ k p f w sort z e. off e, (λ k p f w sort z e. off e, (λ k p f w sort z e. off e, (λ k p f w sort z e. off e, tt)))))),
              ),
            ),
          )
          path n c l stands memory port field way sort zero unturned is;
      captured = λ path n c l memory port field way stands sort late unturned is.
          each_leaf ShowsLater (λ k p f w sort z. no_memory_in refl sort) (λ k p f w sort z. no_memory_in refl sort) (
            λ k p f w sort z e. off e,
            (
              λ k p f w sort z e. off e,
              (
                λ k p f w sort z e. off e,
                (data_later, (λ k p f w sort z e. off e, (λ k p f w sort z e. off e, (λ k p f w sort z e. off e, (λ k p f w sort z e. off e, (λ k p f w sort z e. off e, tt)))))),
              ),
            ),
          )
          path n c l stands memory port field way sort late unturned is;
      driven = each_leaf (λ path n c l. is_driven c l ≡ true → drives (scene_of n path rho) (leaf_of c l) c.declaration.block ≡ Some (seen n path rho c l)) (λ e. off (sym e)) (λ e. x_left) (
        λ e. read_addr,
        (
          λ e. read_en,
          (
            λ e. off (sym e ∙ ap not (port_clock 28 clk_name)),
            (
              λ e. off (sym e),
              (λ e. write_addr, (λ e. write_en, (λ e. off (sym e ∙ ap not (port_clock 29 clk_name)), (λ e. write_data, (λ e. write_mask, tt))))),
            ),
          ),
        ),
      );
    }

pub settles_now : (s : State) → s.contents [] 27 2 [] ≡ pos 4 → Settled (holding 0) s nothing (reading 4)
settles_now s h = settles 0 s (λ z. h) (λ z. absurd (z refl))

pub settles_later : (s : State) → s.captured [] 27 28 [] ≡ pos 4 → Settled (holding 1) s nothing (reading 4)
settles_later s h = settles 1 s (λ z. absurd (omega (arith, z))) (λ z. h)

pub next_written : (latency : ℕ) (s : State) → (next (holding latency) s (reading 4)).contents [] 27 2 [] ≡ pos 9
next_written latency s = writes_9 latency (s.contents [] 27)

pub next_kept : (latency : ℕ) (s : State) → (next (holding latency) s (reading 4)).contents [] 27 3 [] ≡ s.contents [] 27 3 []
next_kept latency s = keeps_3 latency (s.contents [] 27)

pub next_captured : (s : State) → (next (holding 1) s (reading 4)).captured [] 27 28 [] ≡ s.contents [] 27 2 []
next_captured s = reads_2 1 (s.contents [] 27)
