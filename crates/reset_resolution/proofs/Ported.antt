-- Ports, modules and their instances.
use Rattle.std.proofs.Common.{arith, ◌≡◌, ℕ, ◌+◌, ◌<◌, ◌==◌, Bool, true, false, List, [], ◌∷◌, ◌++◌, map, length, take, get_or, find, Option, Some, None, cond, if◌then◌else◌, nat_eq, is_some, refl, sym, ap, ap₂, ◌∙◌}
use Rattle.std.proofs.lemmas.Grind.{common_steps}
use Rattle.std.specs.Prelude.{option_map}
use Rattle.std.specs.Map.{lookup}
use Rattle.std.proofs.lemmas.Bool.{eqb-true}
use Rattle.std.proofs.lemmas.List.{take_more}
use Rattle.reset_search.specs.declared.spot.Reach.{Reach}
use Rattle.reset_search.specs.Feeds.{Known, WithPorts, known_with, instance_reach, instance_in}
use Rattle.reset_resolution.specs.Walked.{listed, AreInstances}

pub next : {X : Type 0} (xs : List X) (i : ℕ) (x : X) → i < length xs → x ≡ get_or xs i x → take (i + 1) xs ≡ take i xs ++ x ∷ []
next xs i x lt is = take_more xs i x lt ∙ ap (λ y. take i xs ++ y ∷ []) (sym is)

abbrev or_else : {X : Type 0} → Option X → Option X → Option X
or_else (Some x) o = Some x
or_else None o = o

find-append : {X : Type 0} (f : X → Bool) (xs ys : List X) → find f (xs ++ ys) ≡ or_else (find f xs) (find f ys)
find-append f [] ys = refl
find-append f (x ∷ xs) ys = by (f x) (find-append f xs ys)
  where
    by : (b : Bool) → find f (xs ++ ys) ≡ or_else (find f xs) (find f ys) → cond b (Some x) (find f (xs ++ ys)) ≡ or_else (cond b (Some x) (find f xs)) (find f ys)
    by true h = refl
    by false h = h

lookup-append : (xs ys : Known) (name : ℕ) → lookup (nat_eq name) (xs ++ ys) ≡ or_else (lookup (nat_eq name) xs) (lookup (nat_eq name) ys)
lookup-append [] ys name = refl
lookup-append (x ∷ xs) ys name = by (nat_eq name x.0) (lookup-append xs ys name)
  where
    by : (b : Bool) → lookup (nat_eq name) (xs ++ ys) ≡ or_else (lookup (nat_eq name) xs) (lookup (nat_eq name) ys)
        → cond b (Some x.1) (lookup (nat_eq name) (xs ++ ys)) ≡ or_else (cond b (Some x.1) (lookup (nat_eq name) xs)) (lookup (nat_eq name) ys)
    by true h = refl
    by false h = h

abbrev named : ℕ → WithPorts → Bool
named name m = m.holder.name.id == name

pub no_instances : (known : Known) → known ≡ [] → AreInstances [] known
no_instances known e = record { found = λ name. ap (λ l. lookup (nat_eq name) l) e }

-- one module more
instances_more : (ms : List WithPorts) (m : WithPorts) (known : Known) → AreInstances ms known → AreInstances (ms ++ m ∷ []) (known_with known m.holder.name.id (Some (instance_reach m)))
instances_more ms m known h = record { found = λ name. is name ∙ sym (ap (option_map instance_reach) (find-append (named name) ms (m ∷ []))) }
  where
    id : ℕ
    id = m.holder.name.id

    alone : ℕ → Option WithPorts
    alone name = cond (id == name) (Some m) None

    -- a name that stands already
    stays : (name : ℕ) (v : Reach) → option_map instance_reach (find (named id) ms) ≡ Some v → (b : Bool) → nat_eq id name ≡ b
        → option_map instance_reach (find (named name) ms) ≡ option_map instance_reach (or_else (find (named name) ms) (cond b (Some m) None))
    stays name v e true same = by (find (named name) ms) (ap (λ k. option_map instance_reach (find (named k) ms)) (sym (eqb-true id name same)) ∙ e)
      where
        by : (o : Option WithPorts) → option_map instance_reach o ≡ Some v → option_map instance_reach o ≡ option_map instance_reach (or_else o (Some m))
        by (Some x) e' = refl
        by None e' = absurd cc
    stays name v e false other = by (find (named name) ms)
      where
        by : (o : Option WithPorts) → option_map instance_reach o ≡ option_map instance_reach (or_else o None)
        by (Some x) = refl
        by None = refl

    added : (o : Option WithPorts) (b c : Bool) → b ≡ c
        → or_else (option_map instance_reach o) (cond b (Some (instance_reach m)) None) ≡ option_map instance_reach (or_else o (cond c (Some m) None))
    added (Some x) b c e = refl
    added None true true e = refl
    added None false false e = refl
    added None true false e = absurd cc
    added None false true e = absurd cc

    turned : (a b : ℕ) → nat_eq a b ≡ nat_eq b a
    turned a b = grind (arith, common_steps)

    by : (name : ℕ) (o : Option Reach) → lookup (nat_eq id) known ≡ o
        → lookup (nat_eq name) (if is_some o then known else known ++ (id, instance_reach m) ∷ []) ≡ option_map instance_reach (or_else (find (named name) ms) (alone name))
    by name (Some v) e = h.found name ∙ stays name v (sym (h.found id) ∙ e) (nat_eq id name) refl
    by name None e = lookup-append known ((id, instance_reach m) ∷ []) name
        ∙ ap (λ o. or_else o (cond (nat_eq name id) (Some (instance_reach m)) None)) (h.found name)
        ∙ added (find (named name) ms) (nat_eq name id) (id == name) (turned name id)

    is : (name : ℕ) → lookup (nat_eq name) (known_with known id (Some (instance_reach m))) ≡ option_map instance_reach (or_else (find (named name) ms) (alone name))
    is name = by name (lookup (nat_eq id) known) refl

-- the next module of a list
pub instances_next : (holds : Known) (all front : List WithPorts) (m : WithPorts) (known : Known) → all ≡ front ++ m ∷ [] → AreInstances front holds
    → known ≡ known_with holds m.holder.name.id (Some (instance_reach m)) → AreInstances all known
instances_next holds all front m known is h e = record { found = λ name. ap (lookup (nat_eq name)) e ∙ (instances_more front m holds h).found name ∙ sym (ap (λ ms. instance_in ms name) is) }
