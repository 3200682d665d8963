use Rattle.std.proofs.Common.{◌≡◌, ◌∙◌, true, ap, sym, map, string_bytes, Some, true≢false}
use Rattle.clap.specs.Words.{app_of, is_simple_and_free}
use Rattle.clap.specs.Values.{kind_of}
use Rattle.clap.specs.declared.error.kind.ErrorKind.TheVariants.{OutOfMemory}
use Rattle.clap.proofs.WalkLemmas.{both}
use Rattle.command_words.specs.Commands.{matched}
use Rattle.command_words.proofs.Asking.{simple_named}
use Rattle.command_words.proofs.Matching.{refused, taken}
use Rattle.command_words.proofs.reading.matched.Goals as goal

pub returns-in-Ok-clause-rows : goal.returns-in-Ok-clause-rows
returns-in-Ok-clause-rows c =
    let same = c.in_ok-command.ensures in
    let simple : is_simple_and_free (app_of c.in_ok-command.field-0) ≡ true = ap is_simple_and_free same ∙ simple_named c.args.name in
    ap Some (c.in-Ok.ensures.matches (both _ _ simple).0).0
    ∙ (sym (taken (app_of c.in_ok-command.field-0) (map string_bytes c.args.words.now) (c.in-Ok.ensures.kinds simple)) ∙ ap (λ a. matched a (map string_bytes c.args.words.now)) same)

pub returns-clause-rows : goal.returns-clause-rows
returns-clause-rows c =
    let same = c.in_ok-command.ensures in
    let simple : is_simple_and_free (app_of c.in_ok-command.field-0) ≡ true = ap is_simple_and_free same ∙ simple_named c.args.name in
    let other : kind_of c.in-Err.error ≡ OutOfMemory → ⊥ = λ is.
    let bad = rw (c.kind.ensures, is) at c.eq.ensures in
    true≢false (sym bad ∙ c.if-eq.false) in
    refused (app_of c.in_ok-command.field-0) (map string_bytes c.args.words.now) c.in-Err.error (c.in-Err.ensures.kinds simple) other ∙ ap (λ a. matched a (map string_bytes c.args.words.now)) same
