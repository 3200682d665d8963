use Rattle.std.proofs.Common.{sym, ap, ◌∙◌, subst, ⊎_elim}
use Rattle.std.proofs.lemmas.Result.{err_from_is_err_and}
use Rattle.place_text.specs.First.{IsFirst}
use Rattle.place_text.proofs.Verdicts.{passes, refuses_by, wants_memory}
use Rattle.stimulus.specs.Words.{behind}
use Rattle.stimulus.specs.Faults.{IsFault, place_of, rank_of}
use Rattle.stimulus.specs.Ranks.{one_each}
use Rattle.stimulus.specs.Forms.{Heads}
use Rattle.stimulus.specs.Reading.{shown, lines_after, HaveNoFault, IsFirstOfLines}
use Rattle.stimulus.proofs.Heading.{told_start, heads_of}
use Rattle.stimulus.proofs.Verdict.{no_line_first, bad_heading_first, cycles_range_first, lines_first, lines_none}
use Rattle.stimulus.proofs.reading.read_stimulus.Goals as goal

pub returns-in_default-clause-verdict : goal.returns-in_default-clause-verdict
returns-in_default-clause-verdict c =
    let text = c.args.bytes.now in
    let none = sym (told_start text) ∙ c.in_default.ensures.none in
    refuses_by one_each c.bad_line.result (subst (IsFirst place_of rank_of (IsFault text c.args.ports.now)) (sym c.bad_line.ensures) (no_line_first text c.args.ports.now none))

pub returns-in-Err-clause-verdict : goal.returns-in-Err-clause-verdict
returns-in-Err-clause-verdict c =
    let text = c.args.bytes.now in
    let next = c.in-Some.ensures.some in
    let line = sym (told_start text) ∙ next.lines in
    refuses_by one_each c.bad_line-in-Err.result
    (subst (IsFirst place_of rank_of (IsFault text c.args.ports.now)) (sym c.bad_line-in-Err.ensures) (bad_heading_first text c.args.ports.now _ _ c.in-Err.at line c.in-Err.ensures.within c.in-Err.ensures.err))

pub returns-in_err-cycles-clause-verdict : goal.returns-in_err-cycles-clause-verdict
returns-in_err-cycles-clause-verdict c =
    let text = c.args.bytes.now in
    let ports = c.args.ports.now in
    let h = c.in-Ok.ensures.ok in
    let heads = heads_of text (shown c.in-Some.first) c.in-Ok.heading c.in-Some.ensures.some h in
    let q = err_from_is_err_and c.from_residual.result c.from_residual.ensures.1 in
    let at = c.in-Ok.heading.number.at in
    let fault = c.in_err-cycles.field-0.0 in
    let over = c.in_err-cycles.ensures h.cycles h.holds in
    let first : IsFirst place_of rank_of (IsFault text ports) fault =
    subst (IsFirst place_of rank_of (IsFault text ports)) (sym over.0) (cycles_range_first text ports (shown c.in-Ok.heading.number) h.cycles _ heads over.1) in
    rw (q.1, q.2) (refuses_by one_each fault first)

pub returns-in_err-settings-clause-verdict : goal.returns-in_err-settings-clause-verdict
returns-in_err-settings-clause-verdict c =
    let text = c.args.bytes.now in
    let ports = c.args.ports.now in
    let h = c.in-Ok.ensures.ok in
    let heads = heads_of text (shown c.in-Some.first) c.in-Ok.heading c.in-Some.ensures.some h in
    let cycles = c.in_ok-cycles.ensures h.cycles h.holds in
    let q = err_from_is_err_and c.from_residual-in_err-settings.result c.from_residual-in_err-settings.ensures.1 in
    let fault = c.in_err-settings.field-0.0 in
    rw (q.1, q.2)
    (⊎_elim (λ e. wants_memory fault (ap place_of e))
    (λ f. refuses_by one_each fault
    (lines_first text ports (shown c.in-Ok.heading.number) h.cycles _ heads cycles.1 fault
    (subst (λ n. IsFirstOfLines text ports n (lines_after text (behind (shown c.in-Ok.heading.number))) fault) cycles.0 f)))
    c.in_err-settings.ensures.err)

pub returns-clause-verdict : goal.returns-clause-verdict
returns-clause-verdict c =
    let text = c.args.bytes.now in
    let ports = c.args.ports.now in
    let h = c.in-Ok.ensures.ok in
    let heads = heads_of text (shown c.in-Some.first) c.in-Ok.heading c.in-Some.ensures.some h in
    let cycles = c.in_ok-cycles.ensures h.cycles h.holds in
    let read = c.in_ok-settings.ensures.ok in
    passes (record { cycles = c.in_ok-cycles.cycles; settings = c.in_ok-settings.settings })
    (record {
      number = shown c.in-Ok.heading.number;
      lines = lines_after text (behind (shown c.in-Ok.heading.number));
      heads = subst (λ n. Heads text (shown c.in-Ok.heading.number) n (lines_after text (behind (shown c.in-Ok.heading.number)))) (sym cycles.0) heads;
      settings = read.sets;
    })
    (lines_none text ports (shown c.in-Ok.heading.number) h.cycles _ heads cycles.1
    (subst (λ n. HaveNoFault text ports n (lines_after text (behind (shown c.in-Ok.heading.number)))) cycles.0 read.no_fault))
