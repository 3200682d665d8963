-- The instances on loops, found one after another.
use Rattle.std.proofs.Common.{◌≡◌, ℕ, ◌+◌, ◌<◌, ◌≤◌, Bool, true, false, List, [], ◌∷◌, ◌++◌, length, take, get_or, refl, sym, ap, ◌∙◌, subst, arith, ⊎_elim, inl, inr, ◌⊎◌, slice_get, Some}
use Rattle.std.proofs.lemmas.List.Elements.{Contains-append_left, Contains-append_right, Contains-append_cases}
use Rattle.std.specs.Prelude.{Contains, nat_lt, MatchBool}
use Rattle.std.proofs.lemmas.Bool.{ltb-true, ltb-false}
use Rattle.std.proofs.lemmas.List.{take_more, take_all}
use Rattle.std.proofs.lemmas.Option.{slice_get_read}
use Rattle.fir_names.specs.declared.graph.Edge.{Edge}
use Rattle.fir_names.specs.declared.fault.NameFault.{NameFault}
use Rattle.fir_names.specs.declared.fault.NameFault.TheVariants.{InstanceLoop}
use Rattle.fir_names.specs.Graphs.{Graph, IsGraph, Leads, LoopsOf, LoopsBefore, Adds, ends}
use Rattle.fir_names.proofs.Graphs.{some_same, ends_within}
use Rattle.fir_names.proofs.Members.{Contains-first, Contains-none, Contains-one}

pub at_or_before : (k n : ℕ) → k < n + 1 → (k < n) ⊎ (k ≡ n)
at_or_before k n lt = by (nat_lt k n) refl
  where
    by : (b : Bool) → nat_lt k n ≡ b → (k < n) ⊎ (k ≡ n)
    by true t = inl (ltb-true k n t)
    by false f = inr (omega (arith, lt, ltb-false k n f))

pub adds_none : {P : NameFault → Type 0} {fs : List NameFault} → ((found : NameFault) → ¬ (P found)) → Adds P fs fs
adds_none none = record { kept = λ f i. i; added = λ f p. absurd (none f p); only = λ f i. inl i }

pub adds_one : {P : NameFault → Type 0} (one : NameFault) (fs : List NameFault) → ((found : NameFault) → P found → found ≡ one) → P one → Adds P fs (fs ++ one ∷ [])
adds_one {P} one fs same this = record {
  kept = λ f i. Contains-append_left _ (one ∷ []) _ i;
  added = λ f p. Contains-append_right fs _ _ (subst (λ x. Contains (x ∷ []) f) (same f p) (Contains-first []));
  only = λ f i. ⊎_elim (λ l. inl l) (λ r. inr (subst P (sym (Contains-one r)) this)) (Contains-append_cases fs (one ∷ []) _ i);
}

pub adds_both : {P Q R : NameFault → Type 0} {a b c : List NameFault} → Adds P a b → Adds Q b c → ((f : NameFault) → R f → P f ⊎ Q f) → ((f : NameFault) → P f → R f) → ((f : NameFault) → Q f → R f) → Adds R a c
adds_both h k split left right = record {
  kept = λ f i. k.kept f (h.kept f i);
  added = λ f r. ⊎_elim (λ p. k.kept f (h.added f p)) (λ q. k.added f q) (split f r);
  only = λ f i. ⊎_elim (λ l. ⊎_elim (λ x. inl x) (λ p. inr (left f p)) (h.only f l)) (λ q. inr (right f q)) (k.only f i);
}

false_true : false ≡ true → ⊥
false_true e = cc

pub loops_none : (graph : Graph) (from : ℕ) (fs : List NameFault) → Adds (LoopsOf graph from []) fs fs
loops_none graph from fs = adds_none (λ f l. absurd (Contains-none l.stands))

pub loops_more : (graph : Graph) (from : ℕ) (out : List Edge) (i : ℕ) (d : Edge) {a b c : List NameFault} → i < length out
    → Adds (LoopsOf graph from (take i out)) a b → Adds (LoopsOf graph from (get_or out i d ∷ [])) b c → Adds (LoopsOf graph from (take (i + 1) out)) a c
loops_more graph from out i d {a} {b} {c} lt h k = adds_both h k
    (λ f l. by f l (Contains-append_cases (take i out) (get_or out i d ∷ []) _ (subst (λ list. Contains list l.edge) (take_more out i d lt) l.stands)))
    (λ f l. record { edge = l.edge; stands = subst (λ list. Contains list l.edge) (sym (take_more out i d lt)) (Contains-append_left _ (get_or out i d ∷ []) _ l.stands); back = l.back; is = l.is })
    (λ f l. record { edge = l.edge; stands = subst (λ list. Contains list l.edge) (sym (take_more out i d lt)) (Contains-append_right (take i out) _ _ l.stands); back = l.back; is = l.is })
  where
    by : (f : NameFault) (l : LoopsOf graph from (take (i + 1) out) f) → Contains (take i out) l.edge ⊎ Contains (get_or out i d ∷ []) l.edge
        → LoopsOf graph from (take i out) f ⊎ LoopsOf graph from (get_or out i d ∷ []) f
    by f l (inl x) = inl (record { edge = l.edge; stands = x; back = l.back; is = l.is })
    by f l (inr y) = inr (record { edge = l.edge; stands = y; back = l.back; is = l.is })

pub loops_before_none : (graph : Graph) (fs : List NameFault) → Adds (LoopsBefore graph 0) fs fs
loops_before_none graph fs = adds_none (λ f l. absurd (omega (arith, l.before)))

pub loops_before_more : (graph : Graph) (from : ℕ) (out : List Edge) {a b c : List NameFault} → slice_get graph from ≡ Some out
    → Adds (LoopsBefore graph from) a b → Adds (LoopsOf graph from out) b c → Adds (LoopsBefore graph (from + 1)) a c
loops_before_more graph from out e h k = adds_both h k
    (λ f l. by f l (split l.from l.before))
    (λ f l. record { from = l.from; before = omega (arith, l.before); out = l.out; here = l.here; loops = l.loops })
    (λ f l. record { from = from; before = omega arith; out = out; here = e; loops = l })
  where
    split : (k : ℕ) → k < from + 1 → (k < from) ⊎ (k ≡ from)
    split k lt = at_or_before k from lt

    by : (f : NameFault) (l : LoopsBefore graph (from + 1) f) → (l.from < from) ⊎ (l.from ≡ from) → LoopsBefore graph from f ⊎ LoopsOf graph from out f
    by f l (inl lt) = inl (record { from = l.from; before = lt; out = l.out; here = l.here; loops = l.loops })
    by f l (inr is) = inr (subst (λ k. LoopsOf graph k out f) is (subst (λ o. LoopsOf graph l.from o f) (some_same (sym l.here ∙ ap (slice_get graph) is ∙ e)) l.loops))

same_faults : {P Q : NameFault → Type 0} {a b : List NameFault} → ((f : NameFault) → P f → Q f) → ((f : NameFault) → Q f → P f) → Adds P a b → Adds Q a b
same_faults forth back h = record {
  kept = h.kept;
  added = λ f q. h.added f (back f q);
  only = λ f i. ⊎_elim (λ l. inl l) (λ p. inr (forth f p)) (h.only f i);
}

-- an instance is told where a way leads back
pub loop_where : (graph : Graph) (from : ℕ) (edge : Edge) (yes : Bool) {a b : List NameFault} → MatchBool yes (Leads graph edge.to from) (¬ (Leads graph edge.to from))
    → Adds (λ fault. (yes ≡ true) × (fault ≡ InstanceLoop edge.place)) a b → Adds (LoopsOf graph from (edge ∷ [])) a b
loop_where graph from edge true way h = same_faults
    (λ f p. record { edge = edge; stands = Contains-first []; back = way; is = p.1 })
    (λ f l. (refl, l.is ∙ ap (λ (e : Edge). InstanceLoop e.place) (Contains-one l.stands))) h
loop_where graph from edge false none h = same_faults
    (λ f p. absurd (false_true p.0))
    (λ f l. absurd (none (subst (λ (e : Edge). Leads graph e.to from) (Contains-one l.stands) l.back))) h

pub told_where : (loops : Bool) (edge : Edge) (fs : List NameFault) → loops ≡ true → Adds (λ fault. (loops ≡ true) × (fault ≡ InstanceLoop edge.place)) fs (fs ++ InstanceLoop edge.place ∷ [])
told_where loops edge fs e = adds_one (InstanceLoop edge.place) fs (λ f p. p.1) (e, refl)

pub edge_more : (P : Edge → Type 0) (out : List Edge) (i : ℕ) (d : Edge) → i < length out → ((edge : Edge) → Contains (take i out) edge → P edge) → P (get_or out i d)
    → (edge : Edge) → Contains (take (i + 1) out) edge → P edge
edge_more P out i d lt h p edge i' = ⊎_elim (λ l. h edge l) (λ r. subst P (sym (Contains-one r)) p) (Contains-append_cases (take i out) (get_or out i d ∷ []) _ (subst (λ list. Contains list edge) (take_more out i d lt) i'))

pub edge_all : (P : Edge → Type 0) (out : List Edge) (i : ℕ) → length out ≤ i → ((edge : Edge) → Contains (take i out) edge → P edge) → (edge : Edge) → Contains out edge → P edge
edge_all P out i le h edge i' = h edge (subst (λ list. Contains list edge) (sym (take_all i out le)) i')

pub ends_of : {graph : Graph} (k : ℕ) (out : List Edge) → IsGraph graph → k < length graph → out ≡ get_or graph k out → (t : ℕ) → Contains (ends out) t → t < length graph
ends_of {graph} k out g lt is = ends_within k out g (slice_get_read graph (length graph) k out refl lt is)
