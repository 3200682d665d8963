-- A run that is written, epoch by epoch.
use Rattle.std.proofs.Common.{◌≡◌, ℕ, ◌+◌, ◌≤◌, Bool, false, List, [], ◌∷◌, ◌++◌, map, length, take, refl, sym, subst, ap, ◌∙◌, arith, append_assoc}
use Rattle.std.specs.List.{list_any}
use Rattle.std.proofs.Math.Seq.{take-length, take-append-add, take-append_seam}
use Rattle.bit_words.specs.declared.value.Value.{Value}
use Rattle.shelf_io.specs.Outside.{Appends}
use Rattle.shelf_io.proofs.Written.{Appends-trans}
use Rattle.std.specs.Prelude.{Option, None}
use Rattle.ground_net.specs.declared.net.Ordered.{Ordered}
use Rattle.ground_net.specs.declared.net.CutPart.{CutPart}
use Rattle.ground_net.specs.Cycles.{NetState, Inputs}
use Rattle.register_table.specs.declared.table.Closed.{Closed}
use Rattle.register_table.specs.Shown.{closed_script}
use Rattle.row_texts.specs.declared.telling.Spot.{Spot}
use Rattle.row_texts.specs.Tellings.{Telling, last_from, told_of, rows_text}
use Rattle.circuit_run.specs.NetRuns.{inputs_from}
use Rattle.circuit_run.proofs.Lists.{front_of}
use Rattle.crew_run.specs.declared.run.Run.{Run}
use Rattle.crew_run.specs.Epochs.{Advances, IsScriptFrom, AreEpochsFrom}
use Rattle.crew_run.specs.Runs.{IsRun}
use Rattle.crew_run.specs.Progress.{Progress, Went}
use Rattle.crew_run.proofs.Going.{go_reaches}
use Rattle.crew_run.proofs.Epochs.{script_behind, tables_next}
use Rattle.crew_run.proofs.Progressing.{none_told, first_spot, told_on, spot_on}

module _ (ordered : Ordered) (watched : List ℕ) (parts : List CutPart) (s : NetState) (given : ℕ → Inputs) (t : Telling) (first : ℕ) where
  pub went_none : (run : Run) (tables : List Closed) (spot : Spot) (ended : Bool) → IsRun ordered watched parts s run → run.cycle ≡ first → tables ≡ [] → spot.cycle ≡ first → spot.before ≡ None → spot.byte ≡ None → ended ≡ false
      → Went ordered watched parts s given t first 0 run tables [] spot ended
  went_none run tables spot ended is cycle none spot_cycle before byte off = record {
    state = s;
    told = none_told ordered.net watched s given t first;
    stands = first_spot ordered.net watched s given t first spot ended spot_cycle before byte off;
    is_run = is;
    cycle = let z : first ≡ first + 0 = omega arith in cycle ∙ z;
    epochs = subst (λ ts. AreEpochsFrom ordered.net watched s given parts 0 (map closed_script ts) 0) (sym none) refl;
  }

  module _ (n count : ℕ) (old new : Run) (tables : List Closed) (lines bytes : List ℕ) (spot : Spot) (was : Bool) (before : Went ordered watched parts s given t first n old tables lines spot was) (on : was ≡ false)
      (more : List (List Value)) (v : NetState) (further : Advances ordered.net watched before.state (inputs_from given n count) more v) (text : bytes ≡ rows_text t spot.cycle spot.before (told_of t.ends more)) where
    abbrev pub progress_next : Progress ordered.net watched s given t first (n + count) (lines ++ bytes) v
    progress_next = told_on ordered.net watched s given t first n count lines bytes before.state v before.told spot was before.stands on more further text

    pub went_next : (closed : Closed) (behind : Spot) (ended : Bool) (both : List Closed) → IsRun ordered watched parts v new → new.cycle ≡ old.cycle + count
        → IsScriptFrom ordered.net watched before.state (λ c. given (n + c)) parts 0 (closed_script closed) → (closed_script closed).cycles ≡ count → 1 ≤ count → count ≤ 1024 → both ≡ tables ++ closed ∷ []
        → behind.cycle ≡ spot.cycle + length (told_of t.ends more) → behind.before ≡ last_from spot.before (told_of t.ends more) → behind.byte ≡ last_from spot.byte bytes → ended ≡ list_any t.ends more
        → Went ordered watched parts s given t first (n + count) new both (lines ++ bytes) behind ended
    went_next closed behind ended both is cycle script cycles least most pushed at_cycle at_before at_byte any = record {
      state = v;
      told = progress_next;
      stands = spot_on ordered.net watched s given t first n count lines bytes before.state v before.told spot was before.stands on more further text behind ended at_cycle at_before at_byte any;
      is_run = is;
      cycle = let z : first + n + count ≡ first + (n + count) = omega arith in cycle ∙ (ap (λ k. k + count) before.cycle ∙ z);
      epochs = subst (λ ts. AreEpochsFrom ordered.net watched s given parts 0 (map closed_script ts) (n + count)) (sym pushed)
          (tables_next ordered.net watched s given parts tables n count closed before.epochs
          (script_behind ordered.net watched s given parts n before.state (closed_script closed) (go_reaches ordered.net watched s before.state (inputs_from given 0 n) before.told.advances) script) cycles least most);
    }

-- all of what was appended, and a front of what comes behind
module _ (old new : Option (List ℕ)) (lines : List ℕ) where
  pub all_of : Appends old new lines → (k : ℕ) × Appends old new (take k lines)
  all_of a = (length lines, subst (Appends old new) (sym (take-length lines)) a)

  pub front_next : (middle : Option (List ℕ)) (bytes : List ℕ) (n : ℕ) → Appends old middle lines → Appends middle new (take n bytes) → (k : ℕ) × Appends old new (take k (lines ++ bytes))
  front_next middle bytes n a b = (length lines + n, subst (Appends old new) (sym (take-append-add lines bytes n)) (Appends-trans old middle new lines (take n bytes) a b))

-- fronts of a whole text: of the head, of the lines behind it, and of the foot
module _ (old middle : Option (List ℕ)) where
  pub head_front : (put head lines more bytes : List ℕ) → put ≡ head → bytes ≡ (head ++ lines) ++ more → (n : ℕ) × Appends old middle (take n put) → (k : ℕ) × Appends old middle (take k bytes)
  head_front put head lines more bytes is whole (n, a) =
      (length (take n head), subst (Appends old middle) (ap (take n) is ∙ sym (ap (take (length (take n head))) (whole ∙ append_assoc head lines more) ∙ front_of [] head (lines ++ more) n)) a)

module _ (old middle new : Option (List ℕ)) (put head lines : List ℕ) where
  pub lines_front : (more bytes : List ℕ) → put ≡ head → bytes ≡ (head ++ lines) ++ more → Appends old middle put → (n : ℕ) × Appends middle new (take n lines) → (k : ℕ) × Appends old new (take k bytes)
  lines_front more bytes is whole a (n, b) = (
    length (head ++ take n lines),
    subst (Appends old new) (sym (ap (take (length (head ++ take n lines))) whole ∙ front_of head lines more n)) (Appends-trans old middle new head (take n lines) (subst (Appends old middle) is a) b),
  )

  pub whole_front : (more bytes : List ℕ) → put ≡ head → bytes ≡ (head ++ lines) ++ more → Appends old middle put → Appends middle new lines → (k : ℕ) × Appends old new (take k bytes)
  whole_front more bytes is whole a b = (
    length (head ++ lines),
    subst (Appends old new) (sym (ap (take (length (head ++ lines))) whole ∙ take-append_seam (head ++ lines) more)) (Appends-trans old middle new head lines (subst (Appends old middle) is a) b),
  )

module _ (old middle inner new : Option (List ℕ)) (put head lines last foot : List ℕ) (is : put ≡ head) (foot_is : last ≡ foot) (a : Appends old middle put) (b : Appends middle inner lines) where
  pub foot_front : (n : ℕ) × Appends inner new (take n last) → (k : ℕ) × Appends old new (take k (head ++ (lines ++ foot)))
  foot_front (n, c) = (
    length (head ++ lines) + n,
    subst (Appends old new) (sym (ap (take (length (head ++ lines) + n)) (sym (append_assoc head lines foot)) ∙ take-append-add (head ++ lines) foot n))
        (Appends-trans old inner new (head ++ lines) (take n foot) (Appends-trans old middle inner head lines (subst (Appends old middle) is a) b) (subst (λ l. Appends inner new (take n l)) foot_is c)),
  )

  pub at_all : Appends inner new last → Appends old new (head ++ (lines ++ foot))
  at_all c = subst (Appends old new) (append_assoc head lines foot)
      (Appends-trans old inner new (head ++ lines) foot (Appends-trans old middle inner head lines (subst (Appends old middle) is a) b) (subst (Appends inner new) foot_is c))
