use Rattle.std.proofs.Common.{◌∙◌, [], ap, sym, codes, true≢false}
use Rattle.std.specs.Prelude.{is_some, option_map, unwrap_or}
use Rattle.clap.specs.Words.{found_of}
use Rattle.clap.proofs.WalkLemmas.{first_value-rows}
use Rattle.command_words.proofs.Given.{state_given}
use Rattle.command_words.proofs.reading.resumed_state.Goals as goal

pub unreachable-requires : goal.unreachable-requires
unreachable-requires c =
    let given = state_given c.requires.0 c.args.matches.now c.requires.2 c.requires.1 in
    true≢false (sym given ∙ ap is_some (sym c.get_str.ensures ∙ ap (option_map (λ s. s.now)) c.in_default.is))

pub returns : goal.returns
returns c = ap (λ o. unwrap_or o []) (sym (ap (option_map (λ s. s.now)) c.in-Some.is) ∙ (c.get_str.ensures ∙ first_value-rows (found_of c.args.matches.now) (codes "state")))
