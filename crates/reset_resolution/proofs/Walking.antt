-- One part of a body walked behind another, and bodies behind one another.
use Rattle.std.proofs.Common.{◌≡◌, ℕ, ◌+◌, ◌<◌, List, [], ◌∷◌, ◌++◌, map, length, take, get_or, Option, Some, None, refl, sym, ap, ap₂, ◌∙◌, arith, append_assoc, append-nil}
use Rattle.fir_tree.proofs.Turns.{Turns, walks_push as one_more}
use Rattle.reset_search.specs.declared.spot.Spot.{Spot}
use Rattle.reset_search.specs.declared.spot.Feed.{Feed}
use Rattle.reset_search.specs.Feeds.{Known, Walk, Gathered, and_then, in_turn, nothing}
use Rattle.reset_resolution.specs.declared.walk.Found.{Found}
use Rattle.reset_resolution.specs.Walked.{Walks}

-- Parts in turn

gathered : {a b : Gathered} → a.known ≡ b.known → a.declared ≡ b.declared → a.nodes ≡ b.nodes → a.feeds ≡ b.feeds → a.asyncs ≡ b.asyncs → a ≡ b
gathered p q r s t = λ i. record { known = p i; declared = q i; nodes = r i; feeds = s i; asyncs = t i }

alone_at : (p : Walk) (known : Known) (n k : ℕ) → and_then nothing p known n k ≡ and_then p nothing known n k
alone_at p known n k =
    let e : p known (n + 0) (k + 0) ≡ p known n k = ap₂ (p known) (omega arith) (omega arith) in
    let g : Gathered = p known n k in
    gathered (ap (λ g. g.known) e) (ap (λ g. 0 + g.declared) e ∙ (let z : 0 + g.declared ≡ g.declared + 0 = omega arith in z))
    (ap (λ g. 0 + g.nodes) e ∙ (let z : 0 + g.nodes ≡ g.nodes + 0 = omega arith in z)) (ap (λ g. g.feeds) e ∙ sym (append-nil g.feeds)) (ap (λ g. g.asyncs) e ∙ sym (append-nil g.asyncs))

either_at : (p q r : Walk) (known : Known) (n k : ℕ) → and_then (and_then p q) r known n k ≡ and_then p (and_then q r) known n k
either_at p q r known n k =
    let a : Gathered = p known n k in
    let b : Gathered = q a.known (n + a.declared) (k + a.nodes) in
    let e : r b.known (n + (a.declared + b.declared)) (k + (a.nodes + b.nodes)) ≡ r b.known ((n + a.declared) + b.declared) ((k + a.nodes) + b.nodes)
    = ap₂ (r b.known) (omega arith) (omega arith) in
    let c : Gathered = r b.known ((n + a.declared) + b.declared) ((k + a.nodes) + b.nodes) in
    gathered (ap (λ g. g.known) e)
    (ap (λ g. (a.declared + b.declared) + g.declared) e ∙ (let z : (a.declared + b.declared) + c.declared ≡ a.declared + (b.declared + c.declared) = omega arith in z))
    (ap (λ g. (a.nodes + b.nodes) + g.nodes) e ∙ (let z : (a.nodes + b.nodes) + c.nodes ≡ a.nodes + (b.nodes + c.nodes) = omega arith in z))
    (ap (λ g. (a.feeds ++ b.feeds) ++ g.feeds) e ∙ append_assoc a.feeds b.feeds c.feeds)
    (ap (λ g. (a.asyncs ++ b.asyncs) ++ g.asyncs) e ∙ append_assoc a.asyncs b.asyncs c.asyncs)

turns : Turns and_then nothing
turns = record { alone = λ p i known n k. alone_at p known n k i; either = λ p q r i known n k. either_at p q r known n k i }

pub walks_nothing : (a : Found) → Walks nothing a a
walks_nothing a = record { known = refl; declared = omega arith; nodes = omega arith; feeds = sym (append-nil a.feeds); asyncs = sym (append-nil a.asyncs) }

pub walks_then : {p q : Walk} {a b c : Found} → Walks p a b → Walks q b c → Walks (and_then p q) a c
walks_then {p} {q} {a} {b} {c} h k =
    let first : Gathered = p a.known.entries a.numbered.next a.nodes in
    let e : q b.known.entries b.numbered.next b.nodes ≡ q first.known (a.numbered.next + first.declared) (a.nodes + first.nodes) = λ i. q (h.known i) (h.declared i) (h.nodes i) in
    let second : Gathered = q first.known (a.numbered.next + first.declared) (a.nodes + first.nodes) in
    record {
      known = k.known ∙ ap (λ g. g.known) e;
      declared = k.declared ∙ ap₂ (λ n g. n + g.declared) h.declared e
          ∙ (let z : (a.numbered.next + first.declared) + second.declared ≡ a.numbered.next + (first.declared + second.declared) = omega arith in z);
      nodes = k.nodes ∙ ap₂ (λ n g. n + g.nodes) h.nodes e ∙ (let z : (a.nodes + first.nodes) + second.nodes ≡ a.nodes + (first.nodes + second.nodes) = omega arith in z);
      feeds = k.feeds ∙ ap₂ (λ l g. l ++ g.feeds) h.feeds e ∙ append_assoc a.feeds first.feeds second.feeds;
      asyncs = k.asyncs ∙ ap₂ (λ l g. l ++ g.asyncs) h.asyncs e ∙ append_assoc a.asyncs first.asyncs second.asyncs;
    }

-- one more of parts in turn
pub walks_push : {X : Type 0} (part : X → Walk) (xs : List X) (i : ℕ) (x : X) {a b c : Found} → i < length xs → x ≡ get_or xs i x
    → Walks (in_turn (map part (take i xs))) a b → Walks (part x) b c → Walks (in_turn (map part (take (i + 1) xs))) a c
walks_push part xs i x lt is h k = one_more Walks turns (λ p q a b c g l. walks_then g l) part xs i x lt is h k

-- a walk that finds the same as another one
pub walks_same : {p q : Walk} (a b : Found) → p a.known.entries a.numbered.next a.nodes ≡ q a.known.entries a.numbered.next a.nodes → Walks p a b → Walks q a b
walks_same a b e h = record {
  known = h.known ∙ ap (λ g. g.known) e;
  declared = h.declared ∙ ap (λ g. a.numbered.next + g.declared) e;
  nodes = h.nodes ∙ ap (λ g. a.nodes + g.nodes) e;
  feeds = h.feeds ∙ ap (λ g. a.feeds ++ g.feeds) e;
  asyncs = h.asyncs ∙ ap (λ g. a.asyncs ++ g.asyncs) e;
}
