use Rattle.std.proofs.Common.{◌∙◌, ap, map, string_bytes}
use Rattle.asked_texts.specs.Commands.{workers_asked, refined_asked}
use Rattle.asked_texts.proofs.Asking.{none_asked, none_requested, order_asked, request_asked}
use Rattle.sim_top.proofs.Replying.{usage_answers, words_answer}
use Rattle.sim_top.proofs.top.decide.Goals as goal

pub returns-in_default-clause-answers : goal.returns-in_default-clause-answers
returns-in_default-clause-answers g c = λ texts held.
    let words = map string_bytes c.args.words.now in
    usage_answers words texts _ (none_asked _ words c.in_default.is c.in_ok-command.ensures.command) c.in_ok-bytes.ensures.items

pub returns-in_default-clause-workers : goal.returns-in_default-clause-workers
returns-in_default-clause-workers g c = λ request is.
    absurd (none_requested _ (map string_bytes c.args.words.now) request c.in_default.is c.in_ok-command.ensures.command is)

pub returns-in_default-clause-refined : goal.returns-in_default-clause-refined
returns-in_default-clause-refined g c = λ request is.
    absurd (none_requested _ (map string_bytes c.args.words.now) request c.in_default.is c.in_ok-command.ensures.command is)

pub returns-in_default-clause-usage : goal.returns-in_default-clause-usage
returns-in_default-clause-usage g c = λ one. none_asked _ (map string_bytes c.args.words.now) c.in_default.is c.in_ok-command.ensures.command

pub returns-in-Ok-clause-answers : goal.returns-in-Ok-clause-answers
returns-in-Ok-clause-answers g c = λ texts held.
    let words = map string_bytes c.args.words.now in
    words_answer words texts _ _ (order_asked _ _ words _ c.in-Some.is c.in_ok-command.ensures.command c.order_of-order.ensures.asked) (c.in-Ok.ensures.answers texts held)

pub returns-in-Ok-clause-workers : goal.returns-in-Ok-clause-workers
returns-in-Ok-clause-workers g c = λ request is.
    c.order_of-order.ensures.workers ∙ ap workers_asked (request_asked _ _ (map string_bytes c.args.words.now) request c.in-Some.is c.in_ok-command.ensures.command is)

pub returns-in-Ok-clause-refined : goal.returns-in-Ok-clause-refined
returns-in-Ok-clause-refined g c = λ request is.
    c.order_of-order.ensures.refined ∙ ap refined_asked (request_asked _ _ (map string_bytes c.args.words.now) request c.in-Some.is c.in_ok-command.ensures.command is)
