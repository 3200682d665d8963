-- What is kept after a cycle stands for the next state.
use Rattle.std.proofs.Common.{◌≡◌, ℕ, zero, suc, List, [], ◌∷◌, refl, sym, ap, ◌∙◌, arith, subst, slice_get, get_or, length, Some, None, true, false}
use Rattle.std.proofs.lemmas.Option.{get_or_from_slice_get, slice_get_within}
use Rattle.bit_words.specs.declared.value.Value.{Value}
use Rattle.ground_net.specs.declared.net.Net.{Net}
use Rattle.ground_net.specs.declared.net.NetMemory.{NetMemory}
use Rattle.ground_net.specs.Grounds.{Instant}
use Rattle.ground_net.specs.Nets.{IsNet}
use Rattle.ground_net.specs.Cycles.{NetState, instant_of, next, next_of_memory}
use Rattle.ground_net.proofs.Settling.{get_there}
use Rattle.net_run.specs.declared.kept.Kept.{Kept}
use Rattle.net_run.specs.Seeing.{AreSeen, value_at}
use Rattle.net_run.specs.Keeping.{AreContents, IsKept}
use Rattle.net_run.specs.Advancing.{AreRegisters}
use Rattle.net_run.specs.Writing.{over_ports, contents_over}
use Rattle.net_run.specs.Capturing.{memories_taken, all_taken}
use Rattle.net_run.proofs.Writes.{ports_written}
use Rattle.net_run.proofs.Captures.{captured_next, all_captured}

none_some : {A : Type 0} {x : A} → None ≡ Some x → ⊥
none_some e = cc

contents_get : (values : List Value) (memories : List NetMemory) (contents : List (List Value)) (m : ℕ) (memory : NetMemory) (held : List Value) → slice_get memories m ≡ Some memory → slice_get contents m ≡ Some held
    → slice_get (contents_over memories values contents) m ≡ Some (over_ports memory values memory.ports held)
contents_get values [] contents m memory held e f = absurd (none_some e)
contents_get values (x ∷ xs) [] m memory held e f = absurd (none_some f)
contents_get values (x ∷ xs) (y ∷ ys) zero memory held e f = cc
contents_get values (x ∷ xs) (y ∷ ys) (suc m) memory held e f = contents_get values xs ys m memory held e f

contents_long : (values : List Value) (memories : List NetMemory) (contents : List (List Value)) → length contents ≡ length memories → length (contents_over memories values contents) ≡ length memories
contents_long values [] contents e = refl
contents_long values (x ∷ xs) [] e = absurd (omega (arith, e))
contents_long values (x ∷ xs) (y ∷ ys) e = ap suc (contents_long values xs ys (omega (arith, e)))

module _ (net : Net) (s : NetState) (kept : Kept) (k : IsKept net s kept) (fine : IsNet net) (values : List Value) (shown_here : AreSeen net values kept.contents) where
  abbrev instant : Instant
  instant = instant_of net s (value_at values)

  abbrev later : List (List Value)
  later = contents_over net.memories values kept.contents

  kept_at : (m : ℕ) (memory : NetMemory) → slice_get net.memories m ≡ Some memory → (held : List Value) × (slice_get kept.contents m ≡ Some held)
  kept_at m memory e =
      let within = slice_get_within net.memories m memory e in
      let counted = k.all_contents in
      get_there kept.contents m (omega (arith, within, counted))

  old_at : (m : ℕ) (memory : NetMemory) → slice_get net.memories m ≡ Some memory → AreContents memory (s.contents m) (get_or kept.contents m [])
  old_at m memory e =
      let held = kept_at m memory e in
      subst (AreContents memory (s.contents m)) (sym (get_or_from_slice_get kept.contents m held.0 [] held.1)) (k.contents m memory held.0 e held.1)

  new_at : (m : ℕ) (memory : NetMemory) → slice_get net.memories m ≡ Some memory → AreContents memory (next_of_memory instant (Some memory) (s.contents m)) (get_or later m [])
  new_at m memory e =
      let held = kept_at m memory e in
      let got = contents_get values net.memories kept.contents m memory held.0 e held.1 in
      subst (AreContents memory (next_of_memory instant (Some memory) (s.contents m))) (sym (get_or_from_slice_get later m (over_ports memory values memory.ports held.0) [] got))
      (ports_written net s values kept.contents shown_here memory memory.ports (λ p port l. fine.memories m p memory port e l) (s.contents m) held.0 (k.contents m memory held.0 e held.1))

  pub advanced : (registers captured : List Value) (contents : List (List Value)) → length registers ≡ length net.registers → AreRegisters net (next net s instant) registers → contents ≡ later
      → captured ≡ all_taken (memories_taken false net.memories values kept.contents (length net.memories)) (memories_taken true net.memories values contents (length net.memories))
      (length (memories_taken true net.memories values contents (length net.memories)))
      → IsKept net (next net s instant) (record { registers = registers; contents = contents; captured = captured })
  advanced registers captured contents counted r c t =
      let taken = t ∙ ap (λ cs. all_taken (memories_taken false net.memories values kept.contents (length net.memories)) (memories_taken true net.memories values cs (length net.memories))
      (length (memories_taken true net.memories values cs (length net.memories)))) c in
      record {
        all_registers = counted;
        registers = r;
        all_contents = ap length c ∙ contents_long values net.memories kept.contents k.all_contents;
        contents = λ m memory held e there.
            let is = get_or_from_slice_get later m held [] (ap (λ l. slice_get l m) (sym c) ∙ there) in
            subst (λ o. AreContents memory (next_of_memory instant o (s.contents m)) held) (sym e) (subst (AreContents memory (next_of_memory instant (Some memory) (s.contents m))) is (new_at m memory e));
        all_captured = ap length taken ∙ all_captured net s fine values kept.contents later shown_here old_at new_at;
        captured = λ n one leaf e there. ap (λ l. slice_get l n) taken ∙ captured_next net s fine values kept.contents later shown_here old_at new_at n one leaf e there;
      }
