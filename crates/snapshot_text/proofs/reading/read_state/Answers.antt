use Rattle.std.proofs.Common.{ap, subst, arith, ⊎_elim}
use Rattle.std.proofs.lemmas.Result.{err_from_is_err_and}
use Rattle.place_text.specs.Places.{place}
use Rattle.place_text.specs.First.{IsFirst, HasNone}
use Rattle.place_text.proofs.Verdicts.{passes, refuses_by, wants_memory}
use Rattle.snapshot_text.specs.declared.fault.StateFault.TheVariants.{BadLine}
use Rattle.snapshot_text.specs.Cells.{cells_of}
use Rattle.snapshot_text.specs.Faults.{IsFault, place_of, rank_of}
use Rattle.snapshot_text.specs.Ranks.{one_each}
use Rattle.snapshot_text.specs.Snapshots.{IsSnapshot}
use Rattle.snapshot_text.proofs.Going.{too_many}
use Rattle.snapshot_text.proofs.Held.{inputs_first, kept_first, over_first, snapshot_is}
use Rattle.snapshot_text.proofs.reading.read_state.Goals as goal

pub returns-in_err-inputs : goal.returns-in_err-inputs
returns-in_err-inputs c =
    let text = c.args.bytes.now in
    let net = c.args.net.now in
    let q = err_from_is_err_and c.from_residual-in_err-inputs.result c.from_residual-in_err-inputs.ensures.1 in
    let fault = c.in_err-inputs.field-0.0 in
    record {
      verdict = rw (q.1, q.2)
          (⊎_elim (λ e. wants_memory fault (ap place_of e))
          (λ f. refuses_by one_each fault
          (subst (λ inputs. IsFirst place_of rank_of (IsFault (cells_of net inputs) text) fault) c.as_slice.ensures
          (inputs_first text net c.as_slice.result.now c.in_ok-head.head.cycle c.in_ok-head.head.behind fault c.in_ok-head.ensures.ok f)))
          c.in_err-inputs.ensures.err);
    }

pub returns-in_err-kept : goal.returns-in_err-kept
returns-in_err-kept c =
    let text = c.args.bytes.now in
    let net = c.args.net.now in
    let q = err_from_is_err_and c.from_residual-in_err-kept.result c.from_residual-in_err-kept.ensures.1 in
    let fault = c.in_err-kept.field-0.0 in
    record {
      verdict = rw (q.1, q.2)
          (⊎_elim (λ e. wants_memory fault (ap place_of e))
          (λ f. refuses_by one_each fault
          (subst (λ inputs. IsFirst place_of rank_of (IsFault (cells_of net inputs) text) fault) c.as_slice.ensures
          (kept_first text net c.as_slice.result.now c.in_ok-head.head.cycle c.in_ok-head.head.behind c.in_ok-inputs.inputs.behind c.in_ok-inputs.inputs.row fault c.in_ok-head.ensures.ok c.in_ok-inputs.ensures.read f)))
          c.in_err-kept.ensures.err);
    }

pub returns-then-kept-bytes : goal.returns-then-kept-bytes
returns-then-kept-bytes c =
    let text = c.args.bytes.now in
    let net = c.args.net.now in
    let fault = BadLine (place text c.in_ok-kept.kept.behind) in
    record {
      verdict = rw c.place_of.ensures
          (refuses_by one_each fault
          (subst (λ inputs. IsFirst place_of rank_of (IsFault (cells_of net inputs) text) fault) c.as_slice.ensures
          (over_first text net c.as_slice.result.now c.in_ok-head.head.cycle c.in_ok-head.head.behind c.in_ok-inputs.inputs.behind c.in_ok-inputs.inputs.row c.in_ok-kept.kept.words c.in_ok-kept.kept.behind fault c.in_ok-head.ensures.ok c.in_ok-inputs.ensures.read c.in_ok-kept.ensures.held
          (too_many text c.in_ok-kept.kept.behind c.if-kept-bytes.true))));
    }

pub returns : goal.returns
returns c =
    let text = c.args.bytes.now in
    let net = c.args.net.now in
    let is = subst (λ inputs. HasNone (IsFault (cells_of net inputs) text) × IsSnapshot net inputs text (record { cycle = c.in_ok-head.head.cycle; inputs = c.in_ok-inputs.inputs.row; words = c.in_ok-kept.kept.words })) c.as_slice.ensures
    (snapshot_is text net c.requires.net c.as_slice.result.now c.in_ok-head.head.cycle c.in_ok-head.head.behind c.in_ok-inputs.inputs.behind c.in_ok-inputs.inputs.row c.in_ok-kept.kept.words c.in_ok-kept.kept.behind c.in_ok-head.ensures.ok c.in_ok-inputs.ensures.row c.in_ok-inputs.ensures.read c.in_ok-kept.ensures.held
    (omega (arith, c.if-kept-bytes.false))) in
    record { verdict = passes (record { cycle = c.in_ok-head.head.cycle; inputs = c.in_ok-inputs.inputs.row; words = c.in_ok-kept.kept.words }) is.1 is.0 }
