use Rattle.std.proofs.Common.{◌∙◌, [], ap, map, sym}
use Rattle.std.specs.Prelude.{option_map, unwrap_or}
use Rattle.std.proofs.lemmas.Result.{IfOk-weaker}
use Rattle.clap.specs.Words.{found_of}
use Rattle.command_words.proofs.Asking.{leaves_lent}
use Rattle.command_words.proofs.reading.leaves.Goals as goal

pub returns-in-Some : goal.returns-in-Some
returns-in-Some c = IfOk-weaker c.from_slice.result _ _
    (λ names is. ap (map (λ name. name.now)) is ∙ (sym (ap (λ o. unwrap_or (option_map (λ s. map (λ v. v.now) s.now) o) []) c.in-Some.is) ∙ leaves_lent _ (found_of c.args.matches.now) c.get_strs.ensures))
    c.from_slice.ensures.items

pub returns-in-None : goal.returns-in-None
returns-in-None c = ap (map (λ name. name.now)) c.new.ensures.items
    ∙ (sym (ap (λ o. unwrap_or (option_map (λ s. map (λ v. v.now) s.now) o) []) c.in-None.is) ∙ leaves_lent _ (found_of c.args.matches.now) c.get_strs.ensures)
