-- What is found, in the words of the circuit.
use Rattle.std.proofs.Common.{◌≡◌, ◌≢◌, ℕ, zero, suc, ◌+◌, ◌<◌, Bool, true, false, List, [], ◌∷◌, ◌++◌, map, length, refl, sym, ap, ap₂, ◌∙◌, subst, arith, append_assoc, append-nil, ⊎_elim, Some, Option, slice_get, cond, ◌||◌}
use Rattle.std.proofs.lemmas.List.Elements.{Contains-append_left, Contains-append_right, Contains-append_cases}
use Rattle.std.specs.Prelude.{Contains, None, nat_eq, nat_lt, ◌↔◌, option_map}
use Rattle.std.specs.List.{flat_map, list_any, AllZip}
use Rattle.std.proofs.lemmas.List.{length-map}
use Rattle.std.proofs.lemmas.Option.{slice_get-map, slice_get_within}
use Rattle.std.proofs.lemmas.Bool.{eqb-true, eqb-false, ltb-true, ltb-false}
use Rattle.place_text.specs.declared.place.Place.{Place}
use Rattle.fir_types.specs.declared.name.Name.{Name}
use Rattle.fir_tree.specs.declared.circuit.Circuit.{Circuit}
use Rattle.fir_tree.specs.declared.circuit.Module.{Module}
use Rattle.fir_tree.specs.declared.scope.Scope.{Scope}
use Rattle.fir_names.specs.declared.fault.NameFault.{NameFault}
use Rattle.fir_names.specs.declared.fault.NameFault.TheVariants as kind
use Rattle.fir_names.specs.declared.graph.Edge.{Edge}
use Rattle.fir_names.specs.declared.gather.Gathered.{Gathered}
use Rattle.fir_names.specs.Extents.{Seen, Use, declared_in, instances_in, uses_in}
use Rattle.fir_names.specs.Scopes.{texts, module_names, FirstOf, Means, Instance, Reaches, itself, through, Names, IsScope}
use Rattle.fir_names.specs.Faults.{IsTwice, IsFault, no_main, module_twice, module_unknown, instance_loop, name_twice, name_unknown}
use Rattle.fir_names.specs.Graphs.{Graph, IsGraph, Out, Leads, stays, goes, LoopsBefore}
use Rattle.fir_names.specs.Walks.{first_of, number_or, fault_unless, number_in, fault_in, number_of, fault_of}
use Rattle.fir_names.specs.Finds.{numbered, fault_where, twice_behind, edge_to, edge_in, edges_of, faults_of, known_of, faults_in, IsFound}
use Rattle.fir_names.proofs.Graphs.{some_same}
use Rattle.fir_names.proofs.Walking.{first_of-kept}
use Rattle.fir_names.proofs.Members.{Contains-first, Contains-later, Contains-none, Contains-one, Contains-get, Contains-flat_map, Contains-from_flat_map}

-- Membership.

any_in : (t : ℕ) (ts : List ℕ) → list_any (nat_eq t) ts ≡ true → Contains ts t
any_in t [] e = cc
any_in t (x ∷ xs) e = by (nat_eq t x) refl e (λ h. any_in t xs h)
  where
    by : (b : Bool) → nat_eq t x ≡ b → (b || list_any (nat_eq t) xs) ≡ true → (list_any (nat_eq t) xs ≡ true → Contains xs t) → Contains (x ∷ xs) t
    by true same h rest = subst (λ z. Contains (z ∷ xs) t) (eqb-true t x same) (Contains-first xs)
    by false other h rest = Contains-later x xs (rest h)

in_any : (t : ℕ) (ts : List ℕ) → Contains ts t → list_any (nat_eq t) ts ≡ true
in_any t [] i = absurd (Contains-none i)
in_any t (x ∷ xs) i = by (nat_eq t x) refl (λ j. in_any t xs j)
  where
    not_here : nat_eq t x ≡ false → Contains xs t
    not_here e = ⊎_elim (λ l. absurd (eqb-false t x e (Contains-one l))) (λ r. r) (Contains-append_cases (x ∷ []) xs _ i)

    by : (b : Bool) → nat_eq t x ≡ b → (Contains xs t → list_any (nat_eq t) xs ≡ true) → (b || list_any (nat_eq t) xs) ≡ true
    by true e rest = refl
    by false e rest = rest (not_here e)

-- Names that stand twice.

record Twice (before names : List Name) (name : Name) : Type 0 where
  middle : List Name
  after : List Name
  split : names ≡ middle ++ name ∷ after
  again : Contains (texts (before ++ middle)) name.id

where_sound : (b : Bool) (g f : NameFault) → Contains (fault_where b g) f → (b ≡ true) × (f ≡ g)
where_sound true g f i = (refl, Contains-one i)
where_sound false g f i = absurd (Contains-none i)

twice_sound : (says : Place → NameFault) (before names : List Name) (f : NameFault) → Contains (twice_behind says before names) f → (name : Name) × Twice before names name × (f ≡ says name.place)
twice_sound says before [] f i = absurd (Contains-none i)
twice_sound says before (x ∷ xs) f i = ⊎_elim
    (λ l. let w = where_sound (list_any (nat_eq x.id) (texts before)) (says x.place) f l in
    (x, record { middle = []; after = xs; split = refl; again = subst (λ b. Contains (texts b) x.id) (sym (append-nil before)) (any_in x.id (texts before) w.0) }, w.1))
    (λ r. let t = twice_sound says (before ++ x ∷ []) xs f r in
    (t.0, record { middle = x ∷ t.1.middle; after = t.1.after; split = ap (λ l. x ∷ l) t.1.split; again = subst (λ b. Contains (texts b) t.0.id) (append_assoc before (x ∷ []) t.1.middle) t.1.again }, t.2))
    (Contains-append_cases (fault_where (list_any (nat_eq x.id) (texts before)) (says x.place)) (twice_behind says (before ++ x ∷ []) xs) _ i)

twice_complete : (says : Place → NameFault) (before middle after : List Name) (name : Name) → Contains (texts (before ++ middle)) name.id
    → Contains (twice_behind says before (middle ++ name ∷ after)) (says name.place)
twice_complete says before [] after name i =
    let e : list_any (nat_eq name.id) (texts before) ≡ true = in_any name.id (texts before) (subst (λ b. Contains (texts b) name.id) (append-nil before) i) in
    Contains-append_left _ (twice_behind says (before ++ name ∷ []) after) _
    (subst (λ b. Contains (fault_where b (says name.place)) (says name.place)) (sym e) (Contains-first []))
twice_complete says before (x ∷ middle) after name i =
    Contains-append_right (fault_where (list_any (nat_eq x.id) (texts before)) (says x.place)) _ _
    (twice_complete says (before ++ x ∷ []) middle after name (subst (λ b. Contains (texts b) name.id) (sym (append_assoc before (x ∷ []) middle)) i))

-- Names that have no meaning.

unless_sound : (o : Option ℕ) (g f : NameFault) → Contains (fault_unless o g) f → (o ≡ None) × (f ≡ g)
unless_sound None g f i = (refl, Contains-one i)
unless_sound (Some n) g f i = absurd (Contains-none i)

unless_complete : (o : Option ℕ) (g : NameFault) → o ≡ None → Contains (fault_unless o g) g
unless_complete None g e = Contains-first []
unless_complete (Some n) g e = cc

seen_some : (seen : List Seen) (t n : ℕ) → first_of seen t ≡ Some n → Contains seen (t, n)
seen_some [] t n e = cc
seen_some (x ∷ xs) t n e = by (nat_eq t x.0) refl e (λ h. seen_some xs t n h)
  where
    by : (b : Bool) → nat_eq t x.0 ≡ b → cond b (Some x.1) (first_of xs t) ≡ Some n → (first_of xs t ≡ Some n → Contains xs (t, n)) → Contains (x ∷ xs) (t, n)
    by true same h rest = subst (λ z. Contains (x ∷ xs) z) (ap₂ (λ a b. (a, b)) (sym (eqb-true t x.0 same)) (some_same h)) (Contains-first xs)
    by false other h rest = Contains-later x xs (rest h)

seen_none : (seen : List Seen) (t n : ℕ) → first_of seen t ≡ None → Contains seen (t, n) → ⊥
seen_none [] t n e i = absurd (Contains-none i)
seen_none (x ∷ xs) t n e i = by (nat_eq t x.0) refl e (λ h j. seen_none xs t n h j)
  where
    by : (b : Bool) → nat_eq t x.0 ≡ b → cond b (Some x.1) (first_of xs t) ≡ None → (first_of xs t ≡ None → Contains xs (t, n) → ⊥) → ⊥
    by true same h rest = cc
    by false other h rest = ⊎_elim (λ l. eqb-false t x.0 other (ap (λ (s : Seen). s.0) (Contains-one l))) (λ r. rest h r) (Contains-append_cases (x ∷ []) xs _ i)

unseen : (seen : List Seen) (t : ℕ) → ((n : ℕ) → ¬ (Contains seen (t, n))) → first_of seen t ≡ None
unseen seen t none = by (first_of seen t) refl
  where
    by : (o : Option ℕ) → first_of seen t ≡ o → o ≡ None
    by None e = refl
    by (Some n) e = absurd (none n (seen_some seen t n e))

-- The modules of names.

first_sound : (n : ℕ) (names : List Name) (t k : ℕ) → first_of (numbered n names) t ≡ Some k → (j : ℕ) × (k ≡ n + j) × FirstOf (texts names) t j
first_sound n [] t k e = cc
first_sound n (x ∷ xs) t k e = by (nat_eq t x.id) refl e (λ h. first_sound (n + 1) xs t k h)
  where
    by : (b : Bool) → nat_eq t x.id ≡ b → cond b (Some n) (first_of (numbered (n + 1) xs) t) ≡ Some k
        → (first_of (numbered (n + 1) xs) t ≡ Some k → (j : ℕ) × (k ≡ (n + 1) + j) × FirstOf (texts xs) t j) → (j : ℕ) × (k ≡ n + j) × FirstOf (texts (x ∷ xs)) t j
    by true same h rest = (0, omega (arith, some_same h), record { has = ap Some (sym (eqb-true t x.id same)); first = λ i lt. absurd (omega (arith, lt)) })
    by false other h rest =
        let r = rest h in
        (suc r.0, omega (arith, r.1), record { has = r.2.has; first = earlier r.0 r.2 })
      where
        earlier : (j : ℕ) → FirstOf (texts xs) t j → (i : ℕ) → i < suc j → slice_get (texts (x ∷ xs)) i ≢ Some t
        earlier j f zero lt = λ h. eqb-false t x.id other (sym (some_same h))
        earlier j f (suc i) lt = f.first i (omega (arith, lt))

first_none : (n : ℕ) (names : List Name) (t : ℕ) → first_of (numbered n names) t ≡ None → Contains (texts names) t → ⊥
first_none n [] t e i = absurd (Contains-none i)
first_none n (x ∷ xs) t e i = by (nat_eq t x.id) refl e (λ h j. first_none (n + 1) xs t h j)
  where
    by : (b : Bool) → nat_eq t x.id ≡ b → cond b (Some n) (first_of (numbered (n + 1) xs) t) ≡ None
        → (first_of (numbered (n + 1) xs) t ≡ None → Contains (texts xs) t → ⊥) → ⊥
    by true same h rest = cc
    by false other h rest = ⊎_elim (λ l. eqb-false t x.id other (Contains-one l)) (λ r. rest h r) (Contains-append_cases (x.id ∷ []) (texts xs) _ i)

first_unique : {xs : List ℕ} {t i j : ℕ} → FirstOf xs t i → FirstOf xs t j → i ≡ j
first_unique {xs} {t} {i} {j} f g = by (nat_lt i j) refl (nat_lt j i) refl
  where
    by : (b : Bool) → nat_lt i j ≡ b → (c : Bool) → nat_lt j i ≡ c → i ≡ j
    by true e c h = absurd (g.first i (ltb-true i j e) f.has)
    by false e true h = absurd (f.first j (ltb-true j i h) g.has)
    by false e false h = omega (arith, ltb-false i j e, ltb-false j i h)

module _ (circuit : Circuit) where
  known_some : (t k : ℕ) → first_of (known_of circuit) t ≡ Some k → Means circuit t k
  known_some t k e =
      let r = first_sound 0 (module_names circuit) t k (sym (first_of-kept (numbered 0 (module_names circuit)) t) ∙ e) in
      subst (λ n. Means circuit t n) (omega (arith, r.1)) r.2

  known_none : (t : ℕ) → first_of (known_of circuit) t ≡ None → Contains (texts (module_names circuit)) t → ⊥
  known_none t e i = first_none 0 (module_names circuit) t (sym (first_of-kept (numbered 0 (module_names circuit)) t) ∙ e) i

  means_known : (t k : ℕ) → Means circuit t k → first_of (known_of circuit) t ≡ Some k
  means_known t k m = by (first_of (known_of circuit) t) refl
    where
      by : (o : Option ℕ) → first_of (known_of circuit) t ≡ o → o ≡ Some k
      by None e = absurd (known_none t e (Contains-get (texts (module_names circuit)) k t m.has))
      by (Some n) e = ap Some (first_unique (known_some t n e) m)

  unknown : (t : ℕ) → ¬ (Contains (texts (module_names circuit)) t) → first_of (known_of circuit) t ≡ None
  unknown t none = by (first_of (known_of circuit) t) refl
    where
      by : (o : Option ℕ) → first_of (known_of circuit) t ≡ o → o ≡ None
      by None e = refl
      by (Some n) e = absurd (none (Contains-get (texts (module_names circuit)) n t (known_some t n e).has))

  -- Instances and edges.

  abbrev graph_of : Graph
  graph_of = map (edges_of (known_of circuit)) circuit.modules

  edge_sound : (o : Option ℕ) (p : Place) (edge : Edge) → Contains (edge_to o p) edge → (o ≡ Some edge.to) × (edge.place ≡ p)
  edge_sound (Some n) p edge i = let e = Contains-one i in (ap (λ (x : Edge). Some x.to) (sym e), ap (λ (x : Edge). x.place) e)
  edge_sound None p edge i = absurd (Contains-none i)

  edge_complete : (o : Option ℕ) (p : Place) (n : ℕ) → o ≡ Some n → Contains (edge_to o p) (record { to = n; place = p })
  edge_complete (Some m) p n e = subst (λ k. Contains {X = Edge} (record { to = k; place = p } ∷ []) (record { to = n; place = p })) (sym (some_same e)) (Contains-first [])
  edge_complete None p n e = cc

  record FromEdge (from : ℕ) (edge : Edge) : Type 0 where
    target : Name
    stands : Instance circuit from target edge.to
    place : edge.place ≡ target.place

  out_is : (from : ℕ) (edge : Edge) → Out graph_of from edge → FromEdge from edge
  out_is from edge o = by (slice_get circuit.modules from) refl (sym (slice_get-map (edges_of (known_of circuit)) circuit.modules from) ∙ o.here)
    where
      by : (m : Option Module) → slice_get circuit.modules from ≡ m → option_map (edges_of (known_of circuit)) m ≡ Some o.out → FromEdge from edge
      by None e h = cc
      by (Some holder) e h =
          let r = Contains-from_flat_map (edge_in (known_of circuit)) (instances_in holder) edge (subst (λ list. Contains list edge) (sym (some_same h)) o.stands) in
          let s = edge_sound (first_of (known_of circuit) r.0.id) r.0.place edge r.2 in
          record { target = r.0; stands = record { holder = holder; here = e; stands = r.1; means = known_some r.0.id edge.to s.0 }; place = s.1 }

  is_out : (from : ℕ) (target : Name) (to : ℕ) → Instance circuit from target to → Out graph_of from (record { to = to; place = target.place })
  is_out from target to i = record {
    out = edges_of (known_of circuit) i.holder;
    here = slice_get-map (edges_of (known_of circuit)) circuit.modules from ∙ ap (option_map (edges_of (known_of circuit))) i.here;
    stands = Contains-flat_map (edge_in (known_of circuit)) (instances_in i.holder) target _ i.stands
        (edge_complete (first_of (known_of circuit) target.id) target.place to (means_known target.id to i.means));
  }

  leads_reaches : (from to : ℕ) → Leads graph_of from to → Reaches circuit from to
  leads_reaches from to stays = itself
  leads_reaches from to (goes middle edge way out) = let f = out_is middle edge out in through middle edge.to f.target (leads_reaches from middle way) f.stands

  reaches_leads : (from to : ℕ) → Reaches circuit from to → Leads graph_of from to
  reaches_leads from to itself = stays
  reaches_leads from to (through middle end target way i) = goes middle (record { to = to; place = target.place }) (reaches_leads from middle way) (is_out middle target to i)

  means_within : (t k : ℕ) → Means circuit t k → k < length graph_of
  means_within t k m = omega (
    arith,
    slice_get_within (texts (module_names circuit)) k t m.has,
    length-map (module_names circuit) (λ (n : Name). n.id),
    length-map circuit.modules (λ (m : Module). m.name),
    length-map circuit.modules (edges_of (known_of circuit)),
  )

  is_graph : IsGraph graph_of
  is_graph = record { within = λ from out edge e i. let f = out_is from edge (record { out = out; here = e; stands = i }) in means_within f.target.id edge.to f.stands.means }

  pub graph_is : (graph : Graph) → graph ≡ graph_of → IsGraph graph
  graph_is graph e = subst IsGraph (sym e) is_graph

  -- All faults.

  fault_here : {g : NameFault} (f : NameFault) → f ≡ g → IsFault circuit g → IsFault circuit f
  fault_here f e h = subst (IsFault circuit) (sym e) h

  module_sound : (holder : Module) (f : NameFault) → Contains circuit.modules holder → Contains (faults_of (known_of circuit) holder) f → IsFault circuit f
  module_sound holder f m i = ⊎_elim
      (λ l. let t = twice_sound kind.NameTwice [] (declared_in holder) f l in
      fault_here f t.2 (name_twice holder t.0 m (record { before = t.1.middle; after = t.1.after; split = t.1.split; again = t.1.again })))
      (λ r. ⊎_elim
      (λ u. let w = Contains-from_flat_map fault_of (uses_in holder) f u in let s = unless_sound (first_of w.0.seen w.0.name.id) (kind.NameUnknown w.0.name.place) f w.2 in
      fault_here f s.1 (name_unknown holder w.0 m w.1 (λ n j. seen_none w.0.seen w.0.name.id n s.0 j)))
      (λ u. let w = Contains-from_flat_map (fault_in kind.ModuleUnknown (known_of circuit)) (instances_in holder) f u in
      let s = unless_sound (first_of (known_of circuit) w.0.id) (kind.ModuleUnknown w.0.place) f w.2 in
      fault_here f s.1 (module_unknown holder w.0 m w.1 (λ j. known_none w.0.id s.0 j)))
      (Contains-append_cases (flat_map fault_of (uses_in holder)) (flat_map (fault_in kind.ModuleUnknown (known_of circuit)) (instances_in holder)) _ r))
      (Contains-append_cases (twice_behind kind.NameTwice [] (declared_in holder)) (flat_map fault_of (uses_in holder) ++ flat_map (fault_in kind.ModuleUnknown (known_of circuit)) (instances_in holder)) _ i)

  plain_sound : (f : NameFault) → Contains (faults_in circuit) f → IsFault circuit f
  plain_sound f i = ⊎_elim
      (λ l. let t = twice_sound kind.ModuleTwice [] (module_names circuit) f l in
      fault_here f t.2 (module_twice t.0 (record { before = t.1.middle; after = t.1.after; split = t.1.split; again = t.1.again })))
      (λ r. ⊎_elim
      (λ u. let s = unless_sound (first_of (known_of circuit) circuit.main.id) (kind.NoMain circuit.main.place) f u in fault_here f s.1 (no_main (λ j. known_none circuit.main.id s.0 j)))
      (λ u. let w = Contains-from_flat_map (faults_of (known_of circuit)) circuit.modules f u in module_sound w.0 f w.1 w.2)
      (Contains-append_cases (fault_in kind.NoMain (known_of circuit) circuit.main) (flat_map (faults_of (known_of circuit)) circuit.modules) _ r))
      (Contains-append_cases (twice_behind kind.ModuleTwice [] (module_names circuit)) (fault_in kind.NoMain (known_of circuit) circuit.main ++ flat_map (faults_of (known_of circuit)) circuit.modules) _ i)

  loop_sound : (n : ℕ) (f : NameFault) → LoopsBefore graph_of n f → IsFault circuit f
  loop_sound n f l =
      let e = out_is l.from l.loops.edge (record { out = l.out; here = l.here; stands = l.loops.stands }) in
      fault_here f (l.loops.is ∙ ap kind.InstanceLoop e.place)
      (instance_loop l.from l.loops.edge.to e.target e.stands (leads_reaches l.loops.edge.to l.from l.loops.back))

  pub found_sound : (main : ℕ) (found : Gathered) → IsFound circuit main found → (f : NameFault) → Contains found.faults.items f → IsFault circuit f
  found_sound main found h f i = ⊎_elim (λ l. plain_sound f l) (λ r. loop_sound _ f (subst (λ g. LoopsBefore g (length g) f) h.graph r)) (h.faults.only f i)

  twice_in : (says : Place → NameFault) (names : List Name) (name : Name) → IsTwice names name → Contains (twice_behind says [] names) (says name.place)
  twice_in says names name t = subst (λ l. Contains (twice_behind says [] l) (says name.place)) (sym t.split) (twice_complete says [] t.before t.after name t.again)

  of_module : (holder : Module) (f : NameFault) → Contains circuit.modules holder → Contains (faults_of (known_of circuit) holder) f → Contains (faults_in circuit) f
  of_module holder f m i = Contains-append_right (twice_behind kind.ModuleTwice [] (module_names circuit)) _ _ (Contains-append_right (fault_in kind.NoMain (known_of circuit) circuit.main) _ _ (Contains-flat_map (faults_of (known_of circuit)) circuit.modules holder f m i))

  pub found_complete : (main : ℕ) (found : Gathered) → IsFound circuit main found → (f : NameFault) → IsFault circuit f → Contains found.faults.items f
  found_complete main found h f (no_main none) = h.faults.kept _ (Contains-append_right (twice_behind kind.ModuleTwice [] (module_names circuit)) _ _ (Contains-append_left _ _ _ (unless_complete (first_of (known_of circuit) circuit.main.id) (kind.NoMain circuit.main.place) (unknown circuit.main.id none))))
  found_complete main found h f (module_twice name t) = h.faults.kept _ (Contains-append_left _ _ _ (twice_in kind.ModuleTwice (module_names circuit) name t))
  found_complete main found h f (module_unknown holder target m i none) = h.faults.kept _ (of_module holder _ m
      (Contains-append_right (twice_behind kind.NameTwice [] (declared_in holder)) _ _ (Contains-append_right (flat_map fault_of (uses_in holder)) _ _ (Contains-flat_map (fault_in kind.ModuleUnknown (known_of circuit)) (instances_in holder) target _ i
      (unless_complete (first_of (known_of circuit) target.id) (kind.ModuleUnknown target.place) (unknown target.id none))))))
  found_complete main found h f (instance_loop from to target i way) =
      let o = is_out from target to i in
      h.faults.added _ (subst (λ g. LoopsBefore g (length g) (kind.InstanceLoop target.place)) (sym h.graph) (record {
        from = from;
        before = slice_get_within graph_of from o.out o.here;
        out = o.out;
        here = o.here;
        loops = record { edge = record { to = to; place = target.place }; stands = o.stands; back = reaches_leads to from way; is = refl };
      }))
  found_complete main found h f (name_twice holder name m t) = h.faults.kept _ (of_module holder _ m (Contains-append_left _ _ _ (twice_in kind.NameTwice (declared_in holder) name t)))
  found_complete main found h f (name_unknown holder use' m i none) = h.faults.kept _ (of_module holder _ m
      (Contains-append_right (twice_behind kind.NameTwice [] (declared_in holder)) _ _ (Contains-append_left _ _ _ (Contains-flat_map fault_of (uses_in holder) use' _ i (unless_complete (first_of use'.seen use'.name.id) (kind.NameUnknown use'.name.place) (unseen use'.seen use'.name.id none))))))

  -- Where there is no fault.

  named_all : (us : List Use) → ((u : Use) → Contains us u → first_of u.seen u.name.id ≢ None) → AllZip Names us (map number_of us)
  named_all [] h = tt
  named_all (u ∷ us) h = (by (first_of u.seen u.name.id) refl, named_all us (λ v i. h v (Contains-later u us i)))
    where
      by : (o : Option ℕ) → first_of u.seen u.name.id ≡ o → Names u (number_or o)
      by None e = absurd (h u (Contains-first us) e)
      by (Some n) e = seen_some u.seen u.name.id n e

  meant_all : (ts : List Name) → ((t : Name) → Contains ts t → first_of (known_of circuit) t.id ≢ None) → AllZip (λ (t : Name) n. Means circuit t.id n) ts (map (number_in (known_of circuit)) ts)
  meant_all [] h = tt
  meant_all (t ∷ ts) h = (by (first_of (known_of circuit) t.id) refl, meant_all ts (λ v i. h v (Contains-later t ts i)))
    where
      by : (o : Option ℕ) → first_of (known_of circuit) t.id ≡ o → Means circuit t.id (number_or o)
      by None e = absurd (h t (Contains-first ts) e)
      by (Some n) e = known_some t.id n e

  pub no_fault : (main : ℕ) (found : Gathered) → IsFound circuit main found → found.faults.items ≡ [] → (f : NameFault) → IsFault circuit f → ⊥
  no_fault main found h e f is = nothing_in (subst (λ list. Contains list f) e (found_complete main found h f is))
    where
      nothing_in : Contains [] f → ⊥
      nothing_in i = absurd (Contains-none i)

  pub main_means : (main : ℕ) (found : Gathered) → IsFound circuit main found → found.faults.items ≡ [] → Means circuit circuit.main.id main
  main_means main found h e = by (first_of (known_of circuit) circuit.main.id) refl
    where
      by : (o : Option ℕ) → first_of (known_of circuit) circuit.main.id ≡ o → Means circuit circuit.main.id main
      by None f = absurd (no_fault main found h e (kind.NoMain circuit.main.place) (no_main (λ j. known_none circuit.main.id f j)))
      by (Some n) f = subst (λ k. Means circuit circuit.main.id k) (sym (h.is_main ∙ ap number_or f)) (known_some circuit.main.id n f)

  pub main_within : (main : ℕ) (found : Gathered) → IsFound circuit main found → found.faults.items ≡ [] → main < length found.graph.items
  main_within main found h e = subst (λ g. main < length g) (sym h.graph) (means_within circuit.main.id main (main_means main found h e))

  pub is_scope : (main : ℕ) (found : Gathered) (scope : Scope) → IsFound circuit main found → found.faults.items ≡ [] → scope.uses ≡ found.uses.items → scope.targets ≡ found.targets.items
      → length scope.reached ≡ length found.graph.items → ((k : ℕ) → (slice_get scope.reached k ≡ Some true) ↔ Leads found.graph.items main k) → IsScope circuit scope
  is_scope main found scope h e uses targets counted reached = record {
    main = main;
    is_main = main_means main found h e;
    counted = counted ∙ ap length h.graph ∙ length-map circuit.modules (edges_of (known_of circuit));
    reached = λ k lt. (λ t. leads_reaches main k (subst (λ g. Leads g main k) h.graph ((reached k).0 t)), λ r. (reached k).1 (subst (λ g. Leads g main k) (sym h.graph) (reaches_leads main k r)));
    uses = subst (AllZip Names (flat_map uses_in circuit.modules)) (sym (uses ∙ h.uses)) (named_all (flat_map uses_in circuit.modules)
        (λ u i none. let w = Contains-from_flat_map uses_in circuit.modules u i in
        no_fault main found h e (kind.NameUnknown u.name.place) (name_unknown w.0 u w.1 w.2 (λ n j. seen_none u.seen u.name.id n none j))));
    targets = subst (AllZip (λ (t : Name) n. Means circuit t.id n) (flat_map instances_in circuit.modules)) (sym (targets ∙ h.targets)) (meant_all (flat_map instances_in circuit.modules)
        (λ t i none. let w = Contains-from_flat_map instances_in circuit.modules t i in
        no_fault main found h e (kind.ModuleUnknown t.place) (module_unknown w.0 t w.1 w.2 (λ j. known_none t.id none j))));
  }
