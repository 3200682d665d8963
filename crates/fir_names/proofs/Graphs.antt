-- Marking modules, and what a module reaches.
use Rattle.std.proofs.Common.{◌≡◌, ℕ, zero, suc, ◌+◌, ◌<◌, ◌≤◌, Bool, true, false, List, [], ◌∷◌, ◌++◌, length, take, set, get_or, refl, sym, ap, ◌∙◌, subst, arith, append_assoc, append-nil, length-append, ⊎_elim, inl, inr, ◌⊎◌, slice_get, Some, replicate}
use Rattle.std.proofs.lemmas.List.Elements.{Contains-append_left, Contains-append_right, Contains-append_cases}
use Rattle.std.specs.Prelude.{Contains, ◌↔◌}
use Rattle.std.proofs.lemmas.List.{take_more, map-append, length-set, length-replicate, take-append-le, take_all}
use Rattle.std.proofs.lemmas.Option.{slice_get_within, slice_get_read, slice_get-get_or, get_or_from_slice_get}
use Rattle.std.proofs.lemmas.Bool.{eqb-true, eqb-false}
use Rattle.std.specs.Prelude.{nat_eq, pred}
use Rattle.fir_names.specs.declared.graph.Edge.{Edge}
use Rattle.fir_names.specs.Graphs.{Graph, IsGraph, Out, Leads, stays, goes, count_true, Marked, Spreads, ends}
use Rattle.fir_names.proofs.Members.{Contains-first, Contains-none, Contains-one, Contains-get, Contains-map, Contains-from_map}

-- the modules of a list that stand before a place have been looked at
pub record Visits (graph : Graph) (start : ℕ) (marks : List Bool) (order : List ℕ) (next : ℕ) : Type 0 where
  pub marked : Marked marks order
  pub counted : length marks ≡ length graph
  pub begins : Contains order start
  pub sound : (k : ℕ) → Contains order k → Leads graph start k
  pub within : next ≤ length order
  pub looked : (k : ℕ) (edge : Edge) → Contains (take next order) k → Out graph k edge → Contains order edge.to

pub some_same : {X : Type 0} {x y : X} → Some x ≡ Some y → x ≡ y
some_same e = cc

get-set-same : (marks : List Bool) (k : ℕ) → k < length marks → slice_get (set marks k true) k ≡ Some true
get-set-same [] k lt = absurd (omega arith)
get-set-same (b ∷ bs) zero lt = refl
get-set-same (b ∷ bs) (suc k) lt = get-set-same bs k (omega arith)

eqb_suc : (j k : ℕ) → nat_eq (suc j) (suc k) ≡ nat_eq j k
eqb_suc j k = by (nat_eq j k) refl (nat_eq (suc j) (suc k)) refl
  where
    by : (b : Bool) → nat_eq j k ≡ b → (c : Bool) → nat_eq (suc j) (suc k) ≡ c → c ≡ b
    by true h true g = refl
    by false h false g = refl
    by true h false g = absurd (eqb-false (suc j) (suc k) g (ap suc (eqb-true j k h)))
    by false h true g = absurd (eqb-false j k h (ap pred (eqb-true (suc j) (suc k) g)))

get-set-other : (marks : List Bool) (k j : ℕ) → nat_eq j k ≡ false → slice_get (set marks k true) j ≡ slice_get marks j
get-set-other [] k j e = refl
get-set-other (b ∷ bs) zero zero e = cc
get-set-other (b ∷ bs) zero (suc j) e = refl
get-set-other (b ∷ bs) (suc k) zero e = refl
get-set-other (b ∷ bs) (suc k) (suc j) e = get-set-other bs k j (sym (eqb_suc j k) ∙ e)

count_true-set : (marks : List Bool) (k : ℕ) → slice_get marks k ≡ Some false → count_true (set marks k true) ≡ count_true marks + 1
count_true-set [] k e = cc
count_true-set (true ∷ bs) zero e = cc
count_true-set (false ∷ bs) zero e = omega arith
count_true-set (true ∷ bs) (suc k) e = omega (arith, count_true-set bs k e)
count_true-set (false ∷ bs) (suc k) e = count_true-set bs k e

pub count_true-within : (marks : List Bool) → count_true marks ≤ length marks
count_true-within [] = omega arith
count_true-within (true ∷ bs) = omega (arith, count_true-within bs)
count_true-within (false ∷ bs) = omega (arith, count_true-within bs)

pub marks_one : (marks : List Bool) (order : List ℕ) (k : ℕ) → Marked marks order → slice_get marks k ≡ Some false → Spreads (k ∷ []) marks order (set marks k true) (order ++ k ∷ [])
marks_one marks order k m e = record {
  marked = record {
    count = count_true-set marks k e ∙ ap (λ n. n + 1) m.count ∙ sym (length-append order (k ∷ []));
    same = λ j. (there_is j (nat_eq j k) refl, λ i. back j (nat_eq j k) refl (Contains-append_cases order (k ∷ []) _ i));
  };
  counted = length-set marks k true;
  more = k ∷ [];
  onward = refl;
  adds = λ t i. Contains-append_right order _ _ i;
  only = λ t i. Contains-append_cases order (k ∷ []) _ i;
}
  where
    there_is : (j : ℕ) (b : Bool) → nat_eq j k ≡ b → slice_get (set marks k true) j ≡ Some true → Contains (order ++ k ∷ []) j
    there_is j true same t = Contains-append_right order _ _ (subst (λ x. Contains (x ∷ []) j) (eqb-true j k same) (Contains-first []))
    there_is j false other t = Contains-append_left _ (k ∷ []) _ ((m.same j).0 (sym (get-set-other marks k j other) ∙ t))

    back : (j : ℕ) (b : Bool) → nat_eq j k ≡ b → Contains order j ⊎ Contains (k ∷ []) j → slice_get (set marks k true) j ≡ Some true
    back j true same i = subst (λ x. slice_get (set marks k true) x ≡ Some true) (sym (eqb-true j k same)) (get-set-same marks k (slice_get_within marks k false e))
    back j false other i = get-set-other marks k j other ∙ ⊎_elim (λ l. (m.same j).1 l) (λ r. absurd (eqb-false j k other (Contains-one r))) i

pub marks_none : (marks : List Bool) (order : List ℕ) (k : ℕ) → Marked marks order → slice_get marks k ≡ Some true → Spreads (k ∷ []) marks order marks order
marks_none marks order k m e = record {
  marked = m;
  counted = refl;
  more = [];
  onward = sym (append-nil order);
  adds = λ t i. subst (λ x. Contains order x) (sym (Contains-one i)) ((m.same k).0 e);
  only = λ t i. inl i;
}

pub spreads_none : {marks : List Bool} {order : List ℕ} → Marked marks order → Spreads [] marks order marks order
spreads_none h = record { marked = h; counted = refl; more = []; onward = sym (append-nil _); adds = λ t i. absurd (Contains-none i); only = λ t i. inl i }

pub spreads_both : {ts us ms ns os : _} {a b c : _} → Spreads ts ms a ns b → Spreads us ns b os c → Spreads (ts ++ us) ms a os c
spreads_both {ts} {us} {a = a} {b = b} {c = c} h k = record {
  marked = k.marked;
  counted = k.counted ∙ h.counted;
  more = h.more ++ k.more;
  onward = k.onward ∙ ap (λ l. l ++ k.more) h.onward ∙ append_assoc a h.more k.more;
  adds = λ t i. ⊎_elim (λ l. subst (λ list. Contains list t) (sym k.onward) (Contains-append_left _ k.more _ (h.adds t l))) (λ r. k.adds t r) (Contains-append_cases ts us _ i);
  only = λ t i. ⊎_elim (λ l. ⊎_elim (λ x. inl x) (λ y. inr (Contains-append_left _ us _ y)) (h.only t l)) (λ r. inr (Contains-append_right ts _ _ r)) (k.only t i);
}

pub ends_more : (out : List Edge) (i : ℕ) (d : Edge) {ms os ms1 os1 ms2 os2 : _} → i < length out
    → Spreads (ends (take i out)) ms os ms1 os1 → Spreads ((get_or out i d).to ∷ []) ms1 os1 ms2 os2 → Spreads (ends (take (i + 1) out)) ms os ms2 os2
ends_more out i d {ms} {os} {ms2 = ms2} {os2 = os2} lt h k =
    let step : ends (take (i + 1) out) ≡ ends (take i out) ++ (get_or out i d).to ∷ []
    = ap ends (take_more out i d lt) ∙ map-append (λ (e : Edge). e.to) (take i out) (get_or out i d ∷ []) in
    subst (λ ts. Spreads ts ms os ms2 os2) (sym step) (spreads_both h k)

pub unmarked : (n : ℕ) → Marked (replicate n false) []
unmarked n = record { count = none n; same = λ k. (λ e. absurd (nowhere n k e), λ i. absurd (Contains-none i)) }
  where
    none : (n : ℕ) → count_true (replicate n false) ≡ 0
    none zero = refl
    none (suc n) = none n

    nowhere : (n k : ℕ) → slice_get (replicate n false) k ≡ Some true → ⊥
    nowhere zero k e = cc
    nowhere (suc n) zero e = cc
    nowhere (suc n) (suc k) e = nowhere n k e

pub visits_first : {graph : Graph} {start : ℕ} {ms ns os : _} → length ms ≡ length graph → Spreads (start ∷ []) ms [] ns os → Visits graph start ns os 0
visits_first {graph} {start} counted h = record {
  marked = h.marked;
  counted = h.counted ∙ counted;
  begins = h.adds start (Contains-first []);
  sound = λ k i. subst (Leads graph start) (sym (Contains-one (⊎_elim (λ l. absurd (Contains-none l)) (λ r. r) (h.only k i)))) stays;
  within = omega arith;
  looked = λ k edge i out. absurd (Contains-none i);
}

pub visits_next : {graph : Graph} {start next : ℕ} {ms ns os ps : _} (k : ℕ) (out : List Edge) → Visits graph start ms os next → slice_get os next ≡ Some k → slice_get graph k ≡ Some out
    → Spreads (ends out) ms os ns ps → Visits graph start ns ps (next + 1)
visits_next {graph} {start} {next} {ms} {ns} {os} {ps} k out v here_is out_is h = record {
  marked = h.marked;
  counted = h.counted ∙ v.counted;
  begins = keep start v.begins;
  sound = λ t i. ⊎_elim (λ l. v.sound t l) (λ r. let e = Contains-from_map (λ (e : Edge). e.to) out t r in
      subst (Leads graph start) e.2 (goes k e.0 (v.sound k (Contains-get os next k here_is)) (record { out = out; here = out_is; stands = e.1 }))) (h.only t i);
  within = omega (arith, ap length h.onward, length-append os h.more, lt);
  looked = λ t edge i o. by t edge o (Contains-append_cases (take next os) (k ∷ []) _ (subst (λ list. Contains list t) front i));
}
  where
    lt : next < length os
    lt = slice_get_within os next k here_is

    keep : (t : ℕ) → Contains os t → Contains ps t
    keep t i = subst (λ list. Contains list t) (sym h.onward) (Contains-append_left _ h.more _ i)

    front : take (next + 1) ps ≡ take next os ++ k ∷ []
    front = ap (take (next + 1)) h.onward ∙ take-append-le (next + 1) os h.more (omega (arith, lt)) ∙ take_more os next k lt
        ∙ ap (λ x. take next os ++ x ∷ []) (get_or_from_slice_get os next k k here_is)

    by : (t : ℕ) (edge : Edge) → Out graph t edge → Contains (take next os) t ⊎ Contains (k ∷ []) t → Contains ps edge.to
    by t edge o (inl l) = keep edge.to (v.looked t edge l o)
    by t edge o (inr r) =
        let same : t ≡ k = Contains-one r in
        let outs : o.out ≡ out = some_same (sym o.here ∙ ap (slice_get graph) same ∙ out_is) in
        h.adds edge.to (Contains-map (λ (e : Edge). e.to) out edge (subst (λ list. Contains list edge) outs o.stands))

pub visited : {graph : Graph} {start next : ℕ} {ms os : _} → Visits graph start ms os next → length os ≤ next → (k : ℕ) → (slice_get ms k ≡ Some true) ↔ Leads graph start k
visited {graph} {start} {next} {ms} {os} v end k = (λ e. v.sound k ((v.marked.same k).0 e), λ l. (v.marked.same k).1 (all k l))
  where
    looked_all : (t : ℕ) → Contains os t → Contains (take next os) t
    looked_all t i = subst (λ list. Contains list t) (sym (take_all next os end)) i

    all : (t : ℕ) → Leads graph start t → Contains os t
    all t stays = v.begins
    all t (goes middle edge way out) = v.looked middle edge (looked_all middle (all middle way)) out

-- what is left to look at is within the graph
pub visits_within : {graph : Graph} {start next : ℕ} {ms os : _} → Visits graph start ms os next → length os ≤ length graph
visits_within {graph} {ms = ms} {os = os} v = omega (arith, v.counted, v.marked.count, count_true-within ms)

pub visits_known : {graph : Graph} {start next : ℕ} {ms os : _} (k : ℕ) → Visits graph start ms os next → slice_get os next ≡ Some k → k < length graph
visits_known {graph} {next = next} {ms = ms} {os = os} k v e = subst (λ n. k < n) v.counted (slice_get_within ms k true ((v.marked.same k).1 (Contains-get os next k e)))

pub ends_within : {graph : Graph} (k : ℕ) (out : List Edge) → IsGraph graph → slice_get graph k ≡ Some out → (t : ℕ) → Contains (ends out) t → t < length graph
ends_within {graph} k out g e t i = let r = Contains-from_map (λ (edge : Edge). edge.to) out t i in subst (λ x. x < length graph) r.2 (g.within k out r.0 e r.1)

pub end_at : (out : List Edge) (i : ℕ) (d : Edge) → i < length out → Contains (ends out) (get_or out i d).to
end_at out i d lt = Contains-map (λ (e : Edge). e.to) out (get_or out i d) (Contains-get out i (get_or out i d) (slice_get-get_or out i d lt))

pub read_mark : (marks : List Bool) (k : ℕ) (b : Bool) → k < length marks → b ≡ get_or marks k b → slice_get marks k ≡ Some b
read_mark marks k b lt is = slice_get_read marks (length marks) k b refl lt is

pub first_marked : {graph : Graph} {start : ℕ} {ms ns os order : _} → ms ≡ replicate (length graph) false → order ≡ [] → Spreads (start ∷ []) ms order ns os → Visits graph start ns os 0
first_marked {graph} {start} {ms} {ns} {os} {order} m o h =
    visits_first (ap length m ∙ length-replicate (length graph) false) (subst (λ l. Spreads (start ∷ []) ms l ns os) o h)

pub end_below : {n m : ℕ} (out : List Edge) (i : ℕ) (d : Edge) → i < length out → ((t : ℕ) → Contains (ends out) t → t < n) → m ≡ n → (get_or out i d).to < m
end_below {n} {m} out i d lt within e = subst (λ k. (get_or out i d).to < k) (sym e) (within (get_or out i d).to (end_at out i d lt))
