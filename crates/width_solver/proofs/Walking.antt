-- One part of a body walked behind another.
use Rattle.std.proofs.Common.{◌≡◌, ℕ, ◌+◌, ◌<◌, List, ◌++◌, map, length, take, get_or, refl, sym, ap, ap₂, ◌∙◌, arith, append_assoc, append-nil, length-append}
use Rattle.fir_tree.proofs.Turns.{Turns, walks_push as one_more}
use Rattle.width_rules.specs.Sources.{Known}
use Rattle.width_rules.specs.Circuits.{Walk, Gathered, and_then, in_turn, nothing}
use Rattle.width_solver.specs.declared.walk.Found.{Found}
use Rattle.width_solver.specs.Walked.{Walks}

-- Parts in turn

gathered : {a b : Gathered} → a.known ≡ b.known → a.places ≡ b.places → a.rules ≡ b.rules → a ≡ b
gathered p q r = λ i. record { known = p i; places = q i; rules = r i }

alone_at : (p : Walk) (known : Known) (n : ℕ) → and_then nothing p known n ≡ and_then p nothing known n
alone_at p known n =
    let e : p known (n + 0) ≡ p known n = ap (p known) (omega arith) in
    gathered (ap (λ g. g.known) e) (ap (λ g. g.places) e ∙ sym (append-nil _)) (ap (λ g. g.rules) e ∙ sym (append-nil _))

either_at : (p q r : Walk) (known : Known) (n : ℕ) → and_then (and_then p q) r known n ≡ and_then p (and_then q r) known n
either_at p q r known n =
    let a = p known n in
    let b = q a.known (n + length a.places) in
    let e : r b.known (n + length (a.places ++ b.places)) ≡ r b.known ((n + length a.places) + length b.places)
    = ap (r b.known) (omega (arith, length-append a.places b.places)) in
    gathered (ap (λ g. g.known) e) (ap (λ g. (a.places ++ b.places) ++ g.places) e ∙ append_assoc a.places b.places _)
    (ap (λ g. (a.rules ++ b.rules) ++ g.rules) e ∙ append_assoc a.rules b.rules _)

turns : Turns and_then nothing
turns = record { alone = λ p i known n. alone_at p known n i; either = λ p q r i known n. either_at p q r known n i }

pub walks_nothing : (a : Found) → Walks nothing a a
walks_nothing a = record { known = refl; places = sym (append-nil _); rules = sym (append-nil _) }

pub walks_then : {p q : Walk} {a b c : Found} → Walks p a b → Walks q b c → Walks (and_then p q) a c
walks_then {p} {q} {a} {b} {c} h k =
    let first = p a.known.entries (length a.places.items) in
    let len : length b.places.items ≡ length a.places.items + length first.places = ap length h.places ∙ length-append a.places.items first.places in
    let e : q b.known.entries (length b.places.items) ≡ q first.known (length a.places.items + length first.places) = ap₂ q h.known len in
    record {
      known = k.known ∙ ap (λ g. g.known) e;
      places = k.places ∙ ap₂ (λ l g. l ++ g.places) h.places e ∙ append_assoc a.places.items _ _;
      rules = k.rules ∙ ap₂ (λ l g. l ++ g.rules) h.rules e ∙ append_assoc a.rules.items _ _;
    }

-- one more of parts in turn
pub walks_push : {X : Type 0} (part : X → Walk) (xs : List X) (i : ℕ) (x : X) {a b c : Found} → i < length xs → x ≡ get_or xs i x
    → Walks (in_turn (map part (take i xs))) a b → Walks (part x) b c → Walks (in_turn (map part (take (i + 1) xs))) a c
walks_push part xs i x lt is h k = one_more Walks turns (λ p q a b c g l. walks_then g l) part xs i x lt is h k
