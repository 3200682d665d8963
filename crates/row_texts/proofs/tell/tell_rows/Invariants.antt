use Rattle.std.proofs.Common.{◌≡◌, ◌≤◌, ◌-◌, ◌++◌, [], length, take, drop, vec_items, if◌then◌else◌, ◌||◌}
use Rattle.std.specs.List.{list_any}
use Rattle.row_texts.specs.Tellings.{told_of, rows_text}
use Rattle.row_texts.proofs.tell.tell_rows.Given as goal

abbrev pub invariant-loop-told : goal.invariant-loop-told
invariant-loop-told g l = record {
  within : l.told ≤ length l.rows;
  text : vec_items l.bytes ≡ rows_text (g.T.Teller.tells l.teller) l.spot.cycle l.spot.before (take l.told l.rows);
  seen : told_of (g.T.Teller.tells l.teller).ends l.rows ≡ take l.told l.rows ++ (if l.ended then [] else told_of (g.T.Teller.tells l.teller).ends (drop l.told l.rows));
  any : list_any (g.T.Teller.tells l.teller).ends l.rows ≡ (l.ended || list_any (g.T.Teller.tells l.teller).ends (drop l.told l.rows));
}

abbrev pub decreases-loop-told : goal.decreases-loop-told
decreases-loop-told g l = length l.rows - l.told
