-- A text writes one stimulus.
use Rattle.std.proofs.Common.{◌≡◌, ℕ, List, [], ◌∷◌, Some, refl, sym, ap, ap₂, ◌∙◌, subst}
use Rattle.std.specs.Prelude.{slice_get}
use Rattle.std.specs.List.{AllZip}
use Rattle.bit_words.specs.declared.value.Value.{Value}
use Rattle.bit_words.specs.Values.{integer_of, bits_of}
use Rattle.bit_words.specs.Numbers.{integer_of_number}
use Rattle.bit_words.proofs.Congruence.{bits_back}
use Rattle.prim_ops.proofs.Fittings.{same_value}
use Rattle.ground_net.specs.declared.net.Ports.{Ports}
use Rattle.ground_net.specs.declared.net.PortLeaf.{PortLeaf}
use Rattle.stimulus.specs.declared.stimulus.Setting.{Setting}
use Rattle.stimulus.specs.declared.stimulus.Stimulus.{Stimulus}
use Rattle.stimulus.specs.Words.{Word}
use Rattle.stimulus.specs.Forms.{Said}
use Rattle.stimulus.specs.Faults.{input_of}
use Rattle.stimulus.specs.Stimuli.{Sets, IsStimulus}
use Rattle.stimulus.proofs.Judged.{says_once}
use Rattle.stimulus.proofs.Verdict.{heads_once}

-- values of one kind and width that mean one integer are the same
same_integer : (v w : Value) → v.kind ≡ w.kind → v.width ≡ w.width → integer_of v ≡ integer_of w → v ≡ w
same_integer v w kind width e =
    same_value v w kind width
    (sym (bits_back v.kind v.width v.bits v.within) ∙ ap₂ bits_of width e ∙ bits_back w.kind w.width w.bits w.within)

sets_once : (ports : Ports) (line : List Word) (s t : Setting) → Sets ports line s → Sets ports line t → s ≡ t
sets_once ports line s t a b =
    let said = says_once line a.said b.said a.says b.says in
    let cycle : s.cycle ≡ t.cycle = a.cycle ∙ ap (λ (x : Said). x.cycle) said ∙ sym b.cycle in
    let inputs : Some s.input ≡ Some t.input = sym a.input ∙ ap (λ (x : Said). input_of ports x.leaf.bytes) said ∙ b.input in
    let input : s.input ≡ t.input = cc in
    let leaves : Some a.of_input.leaf ≡ Some b.of_input.leaf = sym a.of_input.input ∙ ap (slice_get ports.inputs) input ∙ b.of_input.input in
    let leaf : a.of_input.leaf ≡ b.of_input.leaf = cc in
    let value = same_integer s.value t.value (a.of_input.kind ∙ ap (λ (l : PortLeaf). l.kind) leaf ∙ sym b.of_input.kind) (a.of_input.width ∙ ap (λ (l : PortLeaf). l.width) leaf ∙ sym b.of_input.width)
    (a.value ∙ ap (λ (x : Said). integer_of_number x.number) said ∙ sym b.value) in
    ap₂ (λ (n : ℕ × ℕ) (v : Value). record { cycle = n.0; input = n.1; value = v }) (ap₂ (λ (x y : ℕ). (x, y)) cycle input) value

all_once : (ports : Ports) (lines : List (List Word)) (ss ts : List Setting) → AllZip (Sets ports) lines ss → AllZip (Sets ports) lines ts → ss ≡ ts
all_once ports [] [] [] a b = refl
all_once ports [] [] (t ∷ ts) a b = absurd b
all_once ports [] (s ∷ ss) ts a b = absurd a
all_once ports (l ∷ ls) [] ts a b = absurd a
all_once ports (l ∷ ls) (s ∷ ss) [] a b = absurd b
all_once ports (l ∷ ls) (s ∷ ss) (t ∷ ts) a b = ap₂ (λ x xs. x ∷ xs) (sets_once ports l s t a.0 b.0) (all_once ports ls ss ts a.1 b.1)

pub stimulus_once : (text : List ℕ) (ports : Ports) (s t : Stimulus) → IsStimulus text ports s → IsStimulus text ports t → s ≡ t
stimulus_once text ports s t a b =
    let heads = heads_once text a.number b.number s.cycles t.cycles a.lines b.lines a.heads b.heads in
    let settings = all_once ports b.lines s.settings t.settings (subst (λ ls. AllZip (Sets ports) ls s.settings) heads.2 a.settings) b.settings in
    ap₂ (λ n ss. record { cycles = n; settings = ss }) heads.1 settings
