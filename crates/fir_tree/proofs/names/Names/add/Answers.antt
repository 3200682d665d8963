use Rattle.std.proofs.Common.{◌≡◌, ◌∙◌, [], ◌∷◌, ◌++◌, sym, ap, map, length, arith}
use Rattle.std.specs.Prelude.{Some, None, string_bytes}
use Rattle.std.proofs.lemmas.Grind.{common_steps}
use Rattle.fir_tree.specs.Naming.{number_in}
use Rattle.fir_tree.proofs.Numbering.{known_name, new_name, more_numbers, pushed_texts}
use Rattle.fir_tree.proofs.names.Names.add.Goals as goal

pub returns-in-Some-clause-added : goal.returns-in-Some-clause-added
returns-in-Some-clause-added c =
    let found : number_in (map string_bytes c.self.inside.texts.items) c.args.text.now ≡ Some c.in-Some.id =
    sym (c.self.invariant.finds c.args.text.now) ∙ sym c.get.ensures.value ∙ sym c.copied.ensures ∙ c.in-Some.is in
    known_name c.args.self.now c.args.text.now c.in-Some.id (rw c.self.view_is at found)

-- no number is found, and the text is put at the end
new_text : (c : goal.Else-is_err) → (number_in (map string_bytes c.self.inside.texts.items) (string_bytes c.in_ok-key.key) ≡ None)
    × (map string_bytes c.push.new.self.items ≡ map string_bytes c.self.inside.texts.items ++ string_bytes c.in_ok-key.key ∷ [])
    × (c.len-id.result ≡ length (map string_bytes c.self.inside.texts.items))
new_text c =
    let none : number_in (map string_bytes c.self.inside.texts.items) c.args.text.now ≡ None =
    sym (c.self.invariant.finds c.args.text.now) ∙ sym c.get.ensures.value ∙ sym c.copied.ensures ∙ c.in_default.is in
    let pushed : c.push.new.self.items ≡ c.self.inside.texts.items ++ c.in_ok-owned.owned ∷ [] = grind (arith, common_steps) in (
      rw c.in_ok-key.ensures.ok none,
      ap (map string_bytes) pushed ∙ pushed_texts c.self.inside.texts.items c.in_ok-owned.owned c.in_ok-key.key (c.in_ok-owned.ensures.ok ∙ sym c.in_ok-key.ensures.ok),
      c.len-id.ensures ∙ c.reserve.ensures.len ∙ grind (arith, common_steps),
    )

pub invariant_of-self-2 : goal.invariant_of-self-2
invariant_of-self-2 c =
    let new = new_text c in
    rw new.1 (more_numbers c.self.inside.numbers c.insert.new.self (map string_bytes c.self.inside.texts.items) c.in_ok-key.key c.self.invariant new.0 (rw new.2 at c.in_ok-insert.ensures.updates))

pub returns-clause-added : goal.returns-clause-added
returns-clause-added c =
    let new = new_text c in
    rw (new.1, new.2, c.in_ok-key.ensures.ok, c.self.view_is) (new_name c.args.self.now c.args.text.now (rw (c.in_ok-key.ensures.ok, c.self.view_is) at new.0))
