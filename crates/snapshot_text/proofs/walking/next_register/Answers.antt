use Rattle.snapshot_text.proofs.Stepping.{leaf_within, register_next}
use Rattle.snapshot_text.proofs.walking.next_register.Goals as goal

pub bounds-as_slice-register : goal.bounds-as_slice-register
bounds-as_slice-register c =
    let net = c.args.cursor.net.now in
    let is = rw c.as_slice.ensures at c.index-as_slice-cursor.is in
    let within = leaf_within net c.requires.net c.args.cursor.register c.index-as_slice-cursor.result c.requires.there is in
    rw c.as_slice-2.ensures within

pub returns : goal.returns
returns c =
    let net = c.args.cursor.net.now in
    let is = rw c.as_slice.ensures at c.index-as_slice-cursor.is in
    let within = leaf_within net c.requires.net c.args.cursor.register c.index-as_slice-cursor.result c.requires.there is in
    register_next c.args.cursor c.leaf_line.result c.index-as_slice-cursor.result c.index-as_slice-register.result c.requires.settled c.requires.there is within (rw c.as_slice-2.ensures at c.index-as_slice-register.is) c.leaf_line.ensures
