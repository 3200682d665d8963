-- One judgement behind another.
use Rattle.std.proofs.Common.{◌≡◌, ℕ, ◌+◌, ◌<◌, Bool, true, false, if◌then◌else◌, List, [], ◌∷◌, ◌++◌, map, length, take, get_or, refl, sym, ap, ap₂, ◌∙◌, arith, append_assoc, append-nil, subst}
use Rattle.std.specs.Prelude.{Option, Some, None, flat_map}
use Rattle.std.proofs.lemmas.Grind.{common_steps}
use Rattle.std.proofs.lemmas.List.{map-append, take_more}
use Rattle.std.proofs.lemmas.List.Concat.{flat_map-append}
use Rattle.place_text.specs.declared.place.Place.{Place}
use Rattle.fir_tree.specs.declared.expr.Expr.{Expr, the_lemmas}
use Rattle.type_check.specs.declared.found.Findings.{Findings}
use Rattle.fir_tree.specs.declared.part.Part.{Part}
use Rattle.type_check.specs.declared.rules.Operand.{Operand as Held}
use Rattle.type_check.specs.Parts.{Known}
use Rattle.type_check.specs.Expressions.{Judgement, Judged, Step, Operand, behind, along, typed_operands, with_operand, all_among, judged, found_of}
use Rattle.type_check.specs.Judging.{together, operand_of}
use Rattle.type_check.specs.Walks.{Adds}

-- the same parts and lists
same : {a b : Judgement} → a.part ≡ b.part → a.nodes ≡ b.nodes → a.faults ≡ b.faults → a ≡ b
same {a} {b} part nodes faults =
    ap (λ p. record { part = p; nodes = a.nodes; faults = a.faults }) part
    ∙ ap (λ l. record { part = b.part; nodes = l; faults = a.faults }) nodes
    ∙ ap (λ l. record { part = b.part; nodes = b.nodes; faults = l }) faults

behind_assoc : (a b c : Judgement) → behind a (behind b c) ≡ behind (behind a b) c
behind_assoc a b c = same refl (sym (append_assoc a.nodes b.nodes c.nodes)) (sym (append_assoc a.faults b.faults c.faults))

behind_none : (a : Judgement) (part : Option Part) → a.part ≡ part → behind a (record { part = part; nodes = []; faults = [] }) ≡ a
behind_none a part is = same (sym is) (append-nil a.nodes) (append-nil a.faults)

pub adds_behind : {a b : Judgement} {old between new : Findings} → Adds a old between → Adds b between new → Adds (behind a b) old new
adds_behind {a} {b} {old} h k = record {
  types = k.types ∙ ap (λ l. l ++ b.nodes) h.types ∙ append_assoc old.types.items a.nodes b.nodes;
  faults = k.faults ∙ ap (λ l. l ++ b.faults) h.faults ∙ append_assoc old.faults.items a.faults b.faults;
}

-- one more step
pub along-push : (steps : List Step) (step : Step) (known : Known) (base : Option Part)
    → along (steps ++ step ∷ []) known base ≡ behind (along steps known base) (step known (along steps known base).part)
along-push [] step known base = behind_none (step known base) (step known base).part refl
along-push (first ∷ steps) step known base =
    let a = first known base in
    ap (behind a) (along-push steps step known a.part) ∙ behind_assoc a (along steps known a.part) (step known (along steps known a.part).part)

-- one more of what is mapped
pub map_more : {X Y : Type 0} (f : X → Y) (xs : List X) (i : ℕ) (x : X) → i < length xs → x ≡ get_or xs i x → map f (take (i + 1) xs) ≡ map f (take i xs) ++ f x ∷ []
map_more f xs i x lt is = ap (map f) (take_more xs i x lt) ∙ map-append f (take i xs) (get_or xs i x ∷ []) ∙ ap (λ y. map f (take i xs) ++ f y ∷ []) (sym is)

-- one more operand
abbrev then_operand : Option (List Operand) → Place → Option Part → Option (List Operand)
then_operand (Some operands) place (Some part) = Some (operands ++ record { place = place; typ = part.typ } ∷ [])
then_operand (Some operands) place None = None
then_operand None place part = None

turned_round : (first : Option Part) (at : Place) (rest : Option (List Operand)) (place : Place) (part : Option Part)
    → with_operand first at (then_operand rest place part) ≡ then_operand (with_operand first at rest) place part
turned_round (Some p) at (Some operands) place (Some q) = refl
turned_round (Some p) at (Some operands) place None = refl
turned_round (Some p) at None place part = refl
turned_round None at (Some operands) place (Some q) = refl
turned_round None at (Some operands) place None = refl
turned_round None at None place part = refl

only_one : (place : Place) (part : Option Part) → with_operand part place (Some []) ≡ then_operand (Some []) place part
only_one place (Some part) = refl
only_one place None = refl

pub typed-push : (known : Known) (es : List Judged) (e : Judged) → typed_operands known (es ++ e ∷ []) ≡ then_operand (typed_operands known es) e.place (e.among known).part
typed-push known [] e = only_one e.place (e.among known).part
typed-push known (first ∷ es) e =
    ap (with_operand (first.among known).part first.place) (typed-push known es e)
    ∙ turned_round (first.among known).part first.place (typed_operands known es) e.place (e.among known).part

pub together-push : (known : Known) (es : List Judged) (e : Judged) {old between new : Findings} → Adds (together (all_among known es)) old between → Adds (e.among known) between new
    → Adds (together (all_among known (es ++ e ∷ []))) old new
together-push known es e {old} h k =
    let j = e.among known in
    let all = map-append (λ (e : Judged). e.among known) es (e ∷ []) in
    record {
      types = k.types ∙ ap (λ l. l ++ j.nodes) h.types ∙ append_assoc old.types.items (together (all_among known es)).nodes j.nodes
          ∙ ap (λ l. old.types.items ++ l) (ap (λ l. (together (all_among known es)).nodes ++ l) (sym (append-nil j.nodes))
          ∙ sym (flat_map-append (λ (j : Judgement). j.nodes) (all_among known es) (j ∷ [])) ∙ ap (flat_map (λ (j : Judgement). j.nodes)) (sym all));
      faults = k.faults ∙ ap (λ l. l ++ j.faults) h.faults ∙ append_assoc old.faults.items (together (all_among known es)).faults j.faults
          ∙ ap (λ l. old.faults.items ++ l) (ap (λ l. (together (all_among known es)).faults ++ l) (sym (append-nil j.faults))
          ∙ sym (flat_map-append (λ (j : Judgement). j.faults) (all_among known es) (j ∷ [])) ∙ ap (flat_map (λ (j : Judgement). j.faults)) (sym all));
    }

held_more : (complete : Bool) (held : List Operand) (place : Place) (part : Part)
    → then_operand (if complete then Some held else None) place (Some part) ≡ (if complete then Some (held ++ record { place = place; typ = part.typ } ∷ []) else None)
held_more true held place part = refl
held_more false held place part = refl

none_more : (complete : Bool) (held : List Operand) (place : Place) → then_operand (if complete then Some held else None) place None ≡ None
none_more true held place = refl
none_more false held place = refl

place_is : (e : Expr) → (judged e).place ≡ e.place
place_is e = grind (arith, common_steps, the_lemmas)

-- one more operand is held
pub typed_some : (known : Known) (es : List Judged) (e : Expr) (part : Part) (complete : Bool) (held more : List Held) (one : Held)
    → typed_operands known es ≡ (if complete then Some (map operand_of held) else None) → Some part ≡ (found_of known e).part
    → more ≡ held ++ one ∷ [] → one.expr.now ≡ e → one.part ≡ part → typed_operands known (es ++ judged e ∷ []) ≡ (if complete then Some (map operand_of more) else None)
typed_some known es e part complete held more one is here' held_is of_e of_part =
    let same : operand_of one ≡ record { place = e.place; typ = part.typ } = ap₂ (λ (x : Expr) (p : Part). record { place = x.place; typ = p.typ }) of_e of_part in
    typed-push known es (judged e) ∙ ap₂ (λ o p. then_operand o (judged e).place p) is (sym here')
    ∙ ap (λ at. then_operand (if complete then Some (map operand_of held) else None) at (Some part)) (place_is e) ∙ held_more complete (map operand_of held) e.place part
    ∙ ap (λ os. if complete then Some os else None) (sym (ap (map operand_of) held_is ∙ map-append operand_of held (one ∷ []) ∙ ap (λ o. map operand_of held ++ o ∷ []) same))

-- or it has no type
pub typed_none : (known : Known) (es : List Judged) (e : Expr) (complete : Bool) (held : List Held)
    → typed_operands known es ≡ (if complete then Some (map operand_of held) else None) → None ≡ (found_of known e).part → typed_operands known (es ++ judged e ∷ []) ≡ None
typed_none known es e complete held is here' =
    typed-push known es (judged e) ∙ ap₂ (λ o p. then_operand o (judged e).place p) is (sym here') ∙ none_more complete (map operand_of held) (judged e).place

-- one more step was taken
pub record TakesOn (steps : List Step) (known : Known) (base reached : Option Part) (old new : Findings) : Type 0 where
  pub part : reached ≡ (along steps known base).part
  pub found : Adds (along steps known base) old new

pub takes_more : (steps : List Step) (step : Step) (known : Known) (base reached further : Option Part) {old between new : Findings}
    → reached ≡ (along steps known base).part → Adds (along steps known base) old between
    → further ≡ (step known reached).part → Adds (step known reached) between new
    → TakesOn (steps ++ step ∷ []) known base further old new
takes_more steps step known base reached further {old} {between} {new} is h next k = record {
  part = next ∙ ap (λ r. (step known r).part) is ∙ ap (λ j. j.part) (sym (along-push steps step known base));
  found = subst (λ j. Adds j old new) (sym (along-push steps step known base)) (adds_behind h (subst (λ r. Adds (step known r) between new) is k));
}
