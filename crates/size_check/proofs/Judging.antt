-- The limits, and the verdict.
use Rattle.std.proofs.Common.{◌≡◌, ℕ, ◌-◌, ◌^◌, ◌<◌, min, Bool, true, false, ◌||◌, refl, sym, ap₂, ◌∙◌, arith, true≢false, lit≤, lit<, nat_lt}
use Rattle.std.specs.Prelude.{Some}
use Rattle.std.proofs.lemmas.Bool.{ltb-true, ltb-false}
use Rattle.place_text.specs.First.{IsFirst, HasNone}
use Rattle.place_text.specs.Order.{by_rank, Precedes}
use Rattle.fir_tree.specs.declared.circuit.Circuit.{Circuit}
use Rattle.size_check.specs.declared.sums.Total.{Total}
use Rattle.size_check.specs.declared.measure.Measure.{Measure}
use Rattle.size_check.specs.declared.fault.SizeFault.{SizeFault}
use Rattle.size_check.specs.declared.fault.SizeFault.TheVariants.{TooLarge}
use Rattle.size_check.specs.Caps.{cap, capped_total}
use Rattle.size_check.specs.Faults.{place_of, rank_of}
use Rattle.size_check.specs.Limits.{passes, is_too_large, main_ports, IsFault, too_large, IsWithin, Holds, IsMeasure}
use Rattle.size_check.specs.Standings.{measured}

lt_to : (m limit x : ℕ) → limit < m → nat_lt limit (min x m) ≡ nat_lt limit x
lt_to m limit x l = by (nat_lt limit (min x m)) (nat_lt limit x) refl refl
  where
    by : (b c : Bool) → nat_lt limit (min x m) ≡ b → nat_lt limit x ≡ c → b ≡ c
    by true true e f = refl
    by true false e f = let g = ltb-true limit (min x m) e in let h = ltb-false limit x f in absurd (omega arith)
    by false true e f = let g = ltb-false limit (min x m) e in let h = ltb-true limit x f in absurd (omega arith)
    by false false e f = refl

passes_cap : (t : Total) (ports : ℕ) → passes (capped_total t) (cap ports) ≡ passes t ports
passes_cap t ports =
    let m = 2 ^ 128 - 1 in
    ap₂ (λ a b. a || b) (lt_to m 32 t.depth (lit< tt))
    (ap₂ (λ a b. a || b) (lt_to m 67108864 t.sums.bytes (lit< tt))
    (ap₂ (λ a b. a || b) (lt_to m 65536 t.sums.leaves (lit< tt))
    (ap₂ (λ a b. a || b) (lt_to m 4096 ports (lit< tt))
    (ap₂ (λ a b. a || b) (lt_to m 1000000 t.sums.size (lit< tt)) (lt_to m 262144 t.sums.words (lit< tt))))))

or_false : (a b : Bool) → (a || b) ≡ false → (a ≡ false) × (b ≡ false)
or_false false b h = (refl, h)
or_false true b h = absurd (true≢false h)

small_to : (m limit x : ℕ) → limit < m → nat_lt limit x ≡ false → min x m ≡ x
small_to m limit x l e = let h = ltb-false limit x e in omega arith

holds_capped : (t : Total) (ports : ℕ) (measure : Measure) → passes t ports ≡ false → Holds (capped_total t) measure → Holds t measure
holds_capped t ports measure h k =
    let m = 2 ^ 128 - 1 in
    let d = or_false (nat_lt 32 t.depth) _ h in
    let b = or_false (nat_lt 67108864 t.sums.bytes) _ d.1 in
    let l = or_false (nat_lt 65536 t.sums.leaves) _ b.1 in
    let p = or_false (nat_lt 4096 ports) _ l.1 in
    let s = or_false (nat_lt 1000000 t.sums.size) (nat_lt 262144 t.sums.words) p.1 in
    record {
      leaves = k.leaves ∙ small_to m 65536 t.sums.leaves (lit< tt) l.0;
      names = k.names ∙ small_to m 67108864 t.sums.bytes (lit< tt) b.0;
      size = k.size ∙ small_to m 1000000 t.sums.size (lit< tt) s.0;
      state_words = k.state_words ∙ small_to m 262144 t.sums.words (lit< tt) s.1;
      depth = k.depth ∙ small_to m 32 t.depth (lit< tt) d.0;
    }

-- what the sums are found to be
pub found_false : (circuit : Circuit) (total : Total) (ports : ℕ) → total ≡ capped_total (measured circuit) → ports ≡ cap (main_ports circuit) → (b : Bool) → passes total ports ≡ b
    → is_too_large circuit ≡ b
found_false circuit total ports t p b h = sym (passes_cap (measured circuit) (main_ports circuit)) ∙ sym (ap₂ passes t p) ∙ h

pub measures : (circuit : Circuit) (total : Total) (ports : ℕ) (measure : Measure) → total ≡ capped_total (measured circuit) → ports ≡ cap (main_ports circuit)
    → IsWithin total ports (Some measure) → IsMeasure circuit measure
measures circuit total ports measure t p h =
    holds_capped (measured circuit) (main_ports circuit) measure (found_false circuit total ports t p false h.0) (rw t at h.1)

pub no_fault : (circuit : Circuit) → is_too_large circuit ≡ false → HasNone (IsFault circuit)
no_fault circuit h fault (too_large e) = true≢false (sym e ∙ h)

pub one_fault : (circuit : Circuit) → is_too_large circuit ≡ true → IsFirst place_of rank_of (IsFault circuit) (TooLarge circuit.main.place)
one_fault circuit h = record { is = too_large h; first = later }
  where
    later : (other : SizeFault) → IsFault circuit other → Precedes place_of rank_of (TooLarge circuit.main.place) other
    later other (too_large e) = by_rank refl refl (lit≤ tt)
