use Rattle.std.proofs.Common.{refl, inl, inr}
use Rattle.std.proofs.lemmas.Result.{err_from_is_err_and}
use Rattle.stimulus.specs.Words.{behind}
use Rattle.stimulus.specs.Reading.{shown, lines_after}
use Rattle.stimulus.proofs.Judged.{ordered_from}
use Rattle.stimulus.proofs.Going.{input_within, read_start, read_fault, read_more, read_all}
use Rattle.stimulus.proofs.reading.read_settings.Goals as goal

pub lines-init : goal.lines-init
lines-init c =
    let text = c.args.reading.now.bytes.now in
    record {
      read = rw (c.in_ok-progress.ensures.last, c.in_ok-progress.ensures.set_in, c.in_ok-progress.ensures.settings)
          (read_start text c.args.reading.now.ports.now c.args.reading.now.cycles (lines_after text (behind (shown c.args.word))) (behind (shown c.args.word)) c.len.result refl c.requires.last c.len.ensures);
      within = c.requires.within;
    }

pub returns-in-Err-clause-err : goal.returns-in-Err-clause-err
returns-in-Err-clause-err c =
    let text = c.args.reading.now.bytes.now in
    let p = c.lines.progress in
    let next = c.in-Some.ensures.some in
    inr (read_fault text c.args.reading.now.ports.now c.args.reading.now.cycles _ c.lines.at p.last p.set_in p.settings c.lines.invariant.read _ _ c.bad_line.result next.lines (inl (c.in-Err.at, c.in-Err.ensures.err, c.bad_line.ensures)))

pub returns-in_err-setting-clause-err : goal.returns-in_err-setting-clause-err
returns-in_err-setting-clause-err c =
    let text = c.args.reading.now.bytes.now in
    let p = c.lines.progress in
    let next = c.in-Some.ensures.some in
    let said = c.in-Ok.ensures.ok in
    let read = c.lines.invariant.read in
    let q = err_from_is_err_and c.from_residual-in_err-setting.result c.from_residual-in_err-setting.ensures.1 in
    rw (q.1, q.2)
    (inr (read_fault text c.args.reading.now.ports.now c.args.reading.now.cycles _ c.lines.at p.last p.set_in p.settings read _ _ c.in_err-setting.field-0.0 next.lines (inr (said.0, said.2, c.in_err-setting.ensures read.done said.0 said.1 read.sets))))

pub note-requires : goal.note-requires
note-requires c =
    let p = c.lines.progress in
    let said = c.in-Ok.ensures.ok in
    let read = c.lines.invariant.read in
    input_within c.args.reading.now.ports.now c.args.reading.now.cycles p.last p.set_in p.settings said.0 c.in_ok-setting.setting read.knows (c.in_ok-setting.ensures read.done said.0 said.1 read.sets)

pub lines-preserved : goal.lines-preserved
lines-preserved c =
    let text = c.args.reading.now.bytes.now in
    let p = c.lines.progress in
    let next = c.in-Some.ensures.some in
    let said = c.in-Ok.ensures.ok in
    let read = c.lines.invariant.read in
    let sound = c.in_ok-setting.ensures read.done said.0 said.1 read.sets in
    record {
      read = rw (c.in_ok-note.ensures.last, c.in_ok-note.ensures.set_in, c.in_ok-note.ensures.settings)
          (read_more text c.args.reading.now.ports.now c.args.reading.now.cycles _ c.lines.at p.last p.set_in p.settings read _ _ (behind (shown c.in-Ok.line.value_word)) said.0 c.in_ok-setting.setting next.lines c.in-Ok.ensures.same c.in-Ok.ensures.after said.2
          (ordered_from text c.in-Ok.line said.0 said.1 c.in-Ok.ensures.inside) sound);
      within = c.in-Ok.ensures.inside.within;
    }

pub returns-clause-ok : goal.returns-clause-ok
returns-clause-ok c =
    let p = c.lines.progress in
    read_all c.args.reading.now.bytes.now c.args.reading.now.ports.now c.args.reading.now.cycles _ c.lines.at p.last p.set_in p.settings c.lines.invariant.read c.in_default.ensures.none
