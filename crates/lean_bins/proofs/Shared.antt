-- Threads may share the bins of a map.
use denote.RattleType.{RattleType}
use denote.Struct.Declared.{shape}
use denote.Param.Send.{IsSend, IsSync, Frees, AllSend, AllSync, sendable}
use denote.Struct.Field.{Field}
use denote.Param.SendFields.{as_row_send, as_row_sync, declared_send, declared_sync}
use Rattle.std.proofs.CrossingOver.{crosses}
use Rattle.std.proofs.sync.atomic.AtomicU64.TheSendSync as atomic
use Rattle.std.specs.declared.alloc.Allocator as Allocator
use Rattle.std.specs.declared.clone.Clone as Clone
use Rattle.std.specs.declared.cmp.Eq as Eq
use Rattle.std.specs.declared.cmp.PartialEq as PartialEq
use Rattle.std.specs.contracts.vec.Vec as Vec
use Rattle.atomic_table.proofs.badge.Badge.TheSendSync as the_badge
use Rattle.atomic_table.proofs.shared.Shared.TheSendSync as the_words
use Rattle.atomic_table.proofs.send_lease.SendLease.TheSendSync as the_lease
use Rattle.boxcar.specs.contracts.slot.OnceSlot as Slot
use Rattle.boxcar.specs.declared.slot.SlotRule as SlotRule
use Rattle.boxcar.proofs.slot.OnceSlot.TheSendSync as slot
use Rattle.boxcar.proofs.tag.Tag.TheSendSync as tag
use Rattle.hashkeys.specs.declared.exact.Exact as Exact
use Rattle.hashkeys.specs.declared.hashing.HashKey as HashKey
use Rattle.bin_entries.proofs.Shared.{entries_send}
use Rattle.bin_history.specs.declared.call.Remap as Remap
use Rattle.bin_history.specs.declared.call.Value as Value
use Rattle.count_ledger.specs.contracts.books_by.RoleBook as Book
use Rattle.lock_table.specs.contracts.locked_slots.LockedSlots as LockedSlots
use Rattle.lean_bins.specs.contracts.slot.BinSlot as BinSlot
use Rattle.lean_bins.specs.contracts.slot.SegmentTag as SegmentTag
use Rattle.lean_bins.specs.contracts.slot.BinSlotFits.TheImpl.{ghosts, no_dict}
use Rattle.lean_bins.specs.contracts.segments.OfSegment as OfSegment
use Rattle.lean_bins.specs.contracts.segments.OfTable as OfTable
use Rattle.lean_bins.specs.contracts.segments.Segment as Segment
use Rattle.lean_bins.specs.contracts.segments.SegmentTable as SegmentTable
use Rattle.lean_bins.specs.contracts.segments.OfSegmentSlotRuleSegment.TheImpl as of_segment
use Rattle.lean_bins.specs.contracts.segments.OfTableSlotRuleSegmentTable.TheImpl as of_table
use Rattle.lean_bins.specs.contracts.bins.LeanBins as Bins
use Rattle.lean_bins.specs.contracts.bins.LeanBins.TheInside as Inside

-- slots in a list
module _ (A : RattleType) (alloc : Allocator.Ghosts A.Denot) (T Y : RattleType) (rule : SlotRule.Ghosts Y.Denot T.Denot) where
  slots_send : IsSend A → Frees alloc alloc.dealloc_token → IsSend T → IsSend (Vec.the_row (Slot.the_row T Y rule) A alloc)
  slots_send sa frees st = search (sendable, crosses, slot.the_send) depth 20

  slots_sync : IsSync A → IsSend T → IsSync T → IsSync (Vec.the_row (Slot.the_row T Y rule) A alloc)
  slots_sync ya st yt = search (sendable, crosses, slot.the_sync) depth 20

module _ (K V F A : RattleType) (hash : HashKey.Ghosts K.Denot) (key_eq : Eq.Ghosts K.Denot)
    (key_same : PartialEq.Ghosts K.Denot)
    (key_exact : Exact.Ghosts K.Denot) (key_clone : Clone.Ghosts K.Denot) (value : Value.Ghosts V.Denot) (value_exact : Exact.Ghosts V.Denot)
    (value_clone : Clone.Ghosts V.Denot) (value_eq : Eq.Ghosts V.Denot)
    (value_same : PartialEq.Ghosts V.Denot)
    (remap : Remap.Ghosts F.Denot K.Denot V.Denot) (function_exact : Exact.Ghosts F.Denot) (function_clone : Clone.Ghosts F.Denot)
    (alloc : Allocator.Ghosts A.Denot)
    (sk : IsSend K) (sv : IsSend V) (sf : IsSend F) (sa : IsSend A) (yk : IsSync K) (yv : IsSync V) (yf : IsSync F)
    (ya : IsSync A)
    (frees : Frees alloc alloc.dealloc_token) where
  book_send : IsSend (Book.the_row K V F)
  book_send = search (sendable, the_badge.the_send) depth 30

  bin_slot_send : IsSend (BinSlot.the_row K V F A hash key_same key_clone alloc)
  bin_slot_send = declared_send (BinSlot.the_type K V F A hash key_same key_clone alloc) (
    entries_send K V A hash key_same key_clone alloc sk sv sa frees,
    (book_send, tt),
  )

  -- the places of a segment
  abbrev rows_field : Field
  rows_field = LockedSlots.the_field (BinSlot.the_row K V F A hash key_same key_clone alloc) A SegmentTag.the_row
      (ghosts K V F A hash no_dict key_eq no_dict key_same no_dict key_exact no_dict key_clone no_dict value no_dict value_exact no_dict
      value_clone no_dict value_eq no_dict
      value_same no_dict remap no_dict function_exact no_dict function_clone no_dict alloc no_dict no_dict no_dict no_dict no_dict) alloc

  -- a segment of a table
  abbrev segment : RattleType
  segment = Segment.the_row K V F A hash key_eq key_same key_exact key_clone value value_exact value_clone value_eq value_same remap function_exact
      function_clone alloc

  abbrev segment_rule : SlotRule.Ghosts OfSegment.the_row.Denot segment.Denot
  segment_rule = of_segment.ghosts K V F A hash of_segment.no_dict key_eq of_segment.no_dict key_same of_segment.no_dict key_exact
      of_segment.no_dict key_clone
      of_segment.no_dict value of_segment.no_dict value_exact of_segment.no_dict value_clone of_segment.no_dict value_eq of_segment.no_dict
      value_same of_segment.no_dict remap
      of_segment.no_dict function_exact of_segment.no_dict function_clone of_segment.no_dict alloc of_segment.no_dict of_segment.no_dict
      of_segment.no_dict
      of_segment.no_dict of_segment.no_dict

  abbrev segments_field : Field
  segments_field = Vec.the_field (Slot.the_row segment OfSegment.the_row segment_rule) A alloc

  -- a table
  abbrev table : RattleType
  table = SegmentTable.the_row K V F A hash key_eq key_same key_exact key_clone value value_exact value_clone value_eq value_same remap function_exact
      function_clone alloc

  abbrev table_rule : SlotRule.Ghosts OfTable.the_row.Denot table.Denot
  table_rule = of_table.ghosts K V F A hash of_table.no_dict key_eq of_table.no_dict key_same of_table.no_dict key_exact of_table.no_dict key_clone
      of_table.no_dict value of_table.no_dict value_exact of_table.no_dict value_clone of_table.no_dict value_eq of_table.no_dict
      value_same of_table.no_dict remap
      of_table.no_dict function_exact of_table.no_dict function_clone of_table.no_dict alloc of_table.no_dict of_table.no_dict of_table.no_dict
      of_table.no_dict of_table.no_dict

  bare_send : IsSend rows_field.row
  bare_send = search (sendable, crosses, the_words.the_send, the_lease.the_send, bin_slot_send) depth 30

  bare_sync : IsSync rows_field.row
  bare_sync = search (sendable, crosses, the_words.the_sync, the_lease.the_sync, bin_slot_send) depth 30

  segment_send : IsSend segment
  segment_send = declared_send
      (Segment.the_type K V F A hash key_eq key_same key_exact key_clone value value_exact value_clone value_eq value_same remap function_exact
      function_clone alloc) (as_row_send rows_field bare_send, tt)

  segment_sync : IsSync segment
  segment_sync = declared_sync
      (Segment.the_type K V F A hash key_eq key_same key_exact key_clone value value_exact value_clone value_eq value_same remap function_exact
      function_clone alloc) (as_row_sync rows_field bare_sync, tt)

  table_send : IsSend table
  table_send = declared_send
      (SegmentTable.the_type K V F A hash key_eq key_same key_exact key_clone value value_exact value_clone value_eq value_same remap function_exact
      function_clone alloc) (as_row_send segments_field (slots_send A alloc segment OfSegment.the_row segment_rule sa frees segment_send), tt)

  table_sync : IsSync table
  table_sync = declared_sync
      (SegmentTable.the_type K V F A hash key_eq key_same key_exact key_clone value value_exact value_clone value_eq value_same remap function_exact
      function_clone alloc) (as_row_sync segments_field (slots_sync A alloc segment OfSegment.the_row segment_rule ya segment_send segment_sync), tt)

  fields_send : AllSend
      (shape (Inside.the_type K V F A hash key_eq key_same key_exact key_clone value value_exact value_clone value_eq value_same remap function_exact
      function_clone alloc)).fields
  fields_send = (
    bare_send,
    (
      slots_send A alloc table OfTable.the_row table_rule sa frees table_send,
      (
        search (sendable, atomic.the_send) depth 20,
        (search sendable depth 20, (search sendable depth 20, (search (sendable, tag.the_send) depth 20, tt))),
      ),
    ),
  )

  fields_sync : AllSync
      (shape (Inside.the_type K V F A hash key_eq key_same key_exact key_clone value value_exact value_clone value_eq value_same remap function_exact
      function_clone alloc)).fields
  fields_sync = (
    bare_sync,
    (
      slots_sync A alloc table OfTable.the_row table_rule ya table_send table_sync,
      (
        search (sendable, atomic.the_sync) depth 20,
        (search sendable depth 20, (search sendable depth 20, (search (sendable, tag.the_sync) depth 20, tt))),
      ),
    ),
  )

  pub map_send : IsSend
      (Bins.the_row K V F A hash key_eq key_same key_exact key_clone value value_exact value_clone value_eq value_same remap function_exact
      function_clone alloc)
  map_send = search (sendable, fields_send) depth 30

  pub map_sync : IsSync
      (Bins.the_row K V F A hash key_eq key_same key_exact key_clone value value_exact value_clone value_eq value_same remap function_exact
      function_clone alloc)
  map_sync = search (sendable, fields_sync) depth 30
