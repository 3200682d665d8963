-- What was tried of the parts of a graph tells them.
use Rattle.std.proofs.Common.{◌≡◌, ℕ, zero, suc, ◌+◌, ◌<◌, ◌≤◌, Bool, true, false, List, length, refl, sym, ◌∙◌, ap, subst, arith, ⊎_elim, slice_get, Some}
use Rattle.std.specs.Prelude.{Contains, slice_index, nat_eq, MatchBool}
use Rattle.std.proofs.lemmas.Bool.{eqb-true, eqb-false}
use Rattle.std.proofs.lemmas.Option.{slice_get_within}
use Rattle.fir_names.specs.declared.graph.Edge.{Edge}
use Rattle.fir_names.specs.Graphs.{Graph, Out, Leads, stays, goes, Way, Nears, Falls, AreParts}
use Rattle.fir_names.proofs.Graphs.{some_same}
use Rattle.fir_names.proofs.Cycles.{at_or_before}
use Rattle.fir_names.proofs.Members.{Contains-get}

leads_both : {graph : Graph} {a b c : ℕ} → Leads graph a b → Leads graph b c → Leads graph a c
leads_both way stays = way
leads_both way (goes middle edge onward out) = goes middle edge (leads_both way onward) out

way_both : (turned : Bool) (graph : Graph) (a b c : ℕ) → Way turned graph a b → Way turned graph b c → Way turned graph a c
way_both false graph a b c h k = leads_both h k
way_both true graph a b c h k = leads_both k h

way_none : (turned : Bool) (graph : Graph) (a : ℕ) → Way turned graph a a
way_none false graph a = stays
way_none true graph a = stays

pub edge_leads : {graph : Graph} (from at : ℕ) (out : List Edge) (edge : Edge) → slice_get graph from ≡ Some out → slice_get out at ≡ Some edge → Leads graph from edge.to
edge_leads from at out edge h k = goes from edge stays (record { out = out; here = h; stands = Contains-get out at edge k })

-- where each module is a head, or another one is nearer to the head, ways lead to the heads
module _ (turned : Bool) (graph : Graph) (heads far : List ℕ) (near : (k : ℕ) → k < length graph → Nears turned graph heads far k) where
  itself : (k : ℕ) → slice_index heads k ≡ k → Way turned graph k (slice_index heads k)
  itself k is = subst (Way turned graph k) (sym is) (way_none turned graph k)

  onward : (n k : ℕ) → k < length graph → slice_index far k ≤ n → Way turned graph k (slice_index heads k)
  onward zero k lt le = ⊎_elim (itself k) (λ r. absurd (omega (arith, le, r.nearer))) (near k lt)
  onward (suc n) k lt le = ⊎_elim (itself k)
      (λ r. way_both turned graph k r.next (slice_index heads k) r.way (subst (Way turned graph r.next) r.same (onward n r.next r.within (omega (arith, le, r.nearer))))) (near k lt)

  pub heads_lead : (k : ℕ) → k < length graph → Way turned graph k (slice_index heads k)
  heads_lead k lt = onward (slice_index far k) k lt (omega arith)

-- where ranks fall, no way leads back into a part that was left
falls_along : {ranks heads : List ℕ} {graph : Graph} {from : ℕ} → ((middle : ℕ) (edge : Edge) → Out graph middle edge → Falls ranks heads middle edge.to) → (to : ℕ) → Leads graph from to
    → slice_index ranks to ≤ slice_index ranks from
falls_along fall to stays = omega arith
falls_along {ranks} {heads} {graph} {from} fall to (goes middle edge way out) = omega (arith, falls_along fall middle way, (fall middle edge out).falls)

pub parts_are : {ranks heads : List ℕ} {graph : Graph} → ((k : ℕ) → k < length graph → Leads graph k (slice_index heads k)) → ((k : ℕ) → k < length graph → Leads graph (slice_index heads k) k)
    → ((from : ℕ) (edge : Edge) → Out graph from edge → Falls ranks heads from edge.to) → AreParts heads graph
parts_are there back fall = record {
  onward = there;
  backward = back;
  apart = λ from edge out other way. absurd (omega (arith, (fall from edge out).apart other, falls_along fall from way));
}

-- in one part, modules lead to each other
pub one_part : {heads : List ℕ} {graph : Graph} (from to : ℕ) → AreParts heads graph → from < length graph → to < length graph → slice_index heads to ≡ slice_index heads from → Leads graph to from
one_part {heads} {graph} from to parts f t same = leads_both (subst (Leads graph to) same (parts.onward to t)) (parts.backward from f)

pub back_where : {heads : List ℕ} {graph : Graph} (from : ℕ) (edge : Edge) → AreParts heads graph → from < length graph → edge.to < length graph → Out graph from edge → (a b : ℕ)
    → a ≡ slice_index heads edge.to → b ≡ slice_index heads from → MatchBool (nat_eq a b) (Leads graph edge.to from) (¬ (Leads graph edge.to from))
back_where {heads} {graph} from edge parts f t out a b p q = by (nat_eq a b) refl
  where
    by : (yes : Bool) → nat_eq a b ≡ yes → MatchBool yes (Leads graph edge.to from) (¬ (Leads graph edge.to from))
    by true e = one_part from edge.to parts f t (sym p ∙ eqb-true a b e ∙ q)
    by false e = parts.apart from edge out (λ same. eqb-false a b e (p ∙ same ∙ sym q))

-- the edges of the first modules
pub fall_more : {ranks heads : List ℕ} {graph : Graph} (from : ℕ) (out : List Edge) → slice_get graph from ≡ Some out
    → ((k : ℕ) (edge : Edge) → k < from → Out graph k edge → Falls ranks heads k edge.to)
    → ((edge : Edge) → Contains out edge → Falls ranks heads from edge.to) → (k : ℕ) (edge : Edge) → k < from + 1 → Out graph k edge → Falls ranks heads k edge.to
fall_more {ranks} {heads} {graph} from out e h k' k edge lt o = ⊎_elim (λ before. h k edge before o) (λ is. last is) (at_or_before k from lt)
  where
    last : k ≡ from → Falls ranks heads k edge.to
    last is = subst (λ n. Falls ranks heads n edge.to) (sym is) (k' edge (subst (λ list. Contains list edge) (some_same (sym o.here ∙ ap (slice_get graph) is ∙ e)) o.stands))

pub fall_all : {ranks heads : List ℕ} {graph : Graph} (count : ℕ) → length graph ≤ count → ((k : ℕ) (edge : Edge) → k < count → Out graph k edge → Falls ranks heads k edge.to)
    → (from : ℕ) (edge : Edge) → Out graph from edge → Falls ranks heads from edge.to
fall_all {graph = graph} count le h from edge o = h from edge (omega (arith, le, slice_get_within graph from o.out o.here)) o

pub near_more : (P : ℕ → Type 0) (n : ℕ) → ((k : ℕ) → k < n → P k) → P n → (k : ℕ) → k < n + 1 → P k
near_more P n h p k lt = ⊎_elim (λ before. h k before) (λ is. subst P (sym is) p) (at_or_before k n lt)
