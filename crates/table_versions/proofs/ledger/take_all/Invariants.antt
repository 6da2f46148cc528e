use Rattle.std.proofs.Common.{◌+◌, ◌≤◌, List, length}
use Rattle.std.specs.List.{AllZip}
use Rattle.indexmap.specs.IndexMap.{spare}
use Rattle.table_types.specs.Uploads.{Upload}
use Rattle.table_versions.specs.Ledger.{IsLedger, IsPrepared}
use Rattle.table_versions.proofs.Queue.{IsLeft}
use Rattle.table_versions.proofs.ledger.take_all.Given as goal

abbrev pub invariant-loop-prepared : goal.invariant-loop-prepared
invariant-loop-prepared l = record {
  first_room : length l.uploads.items ≤ spare l.firsts;
  table_room : length l.uploads.items ≤ spare l.tables;
  frame_room : length l.uploads.items ≤ spare l.frames;
  first_used : spare l.initial.firsts + length l.uploads.items ≤ spare l.firsts + length l.initial.uploads.items;
  table_used : spare l.initial.tables + length l.uploads.items ≤ spare l.tables + length l.initial.uploads.items;
  frame_used : spare l.initial.frames + length l.uploads.items ≤ spare l.frames + length l.initial.uploads.items;
  left : (taken more : List Upload) → IsLedger l.initial.firsts.entries l.initial.tables.entries l.initial.frames.entries taken
      → AllZip IsPrepared l.initial.uploads.items more → IsLeft l.firsts.entries l.tables.entries l.frames.entries taken more l.uploads.items;
}

abbrev pub decreases-loop-prepared : goal.decreases-loop-prepared
decreases-loop-prepared l = length l.uploads.items
