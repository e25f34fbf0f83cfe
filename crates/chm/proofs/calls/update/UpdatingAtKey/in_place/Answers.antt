use Rattle.std.proofs.Common.{◌≡◌, ap, refl, sym, ◌∙◌}
use Rattle.std.proofs.lemmas.Bool.{false≢true}
use Rattle.hashkeys.specs.Classes.{covers}
use Rattle.hashkeys.specs.Hashing.{hash_of}
use Rattle.bin_history.specs.Calls.{after}
use Rattle.bin_history.specs.Leans.{as_bin}
use Rattle.bin_history.specs.Ops.{key_in}
use Rattle.bin_history.specs.declared.form.Form.TheVariants.{Lean}
use Rattle.bin_layout.specs.Views.{place_of}
use Rattle.chm.specs.Updates.{MayAdd}
use Rattle.chm.specs.Views.{bins_of}
use Rattle.chm.specs.declared.fault.Fault.{Fault}
use Rattle.chm.specs.declared.fault.Fault.TheVariants.{NoMemory}
use Rattle.chm.proofs.InPlace.{class_at, salt_at}
use Rattle.chm.proofs.Sure.{IfErr-of}
use Rattle.chm.proofs.Updating.{IsUpdated-called, MayAdd-refused}
use Rattle.chm.proofs.calls.update.UpdatingAtKey.in_place.Goals as goal

pub get-requires : goal.get-requires
get-requires g c =
    let salt = salt_at g.K.PartialEq.eq (after g.V.PartialEq.eq g.F.Remap.remapped g.F.Remap.merged)
    (place_of (bins_of c.args.map.now) c.args.class) c.args.bin_slot.now.entries c.args.bin_slot.now.role
    c.requires.lies in
    rw c.get-asked.ensures
    (record { hash = c.requires.hash ∙ (λ i. hash_of (sym salt i) (g.K.HashKey.code (key_in c.args.self.key))) })

pub returns-clause-done : goal.returns-clause-done
returns-clause-done g c =
    let key = key_in c.args.self.key in
    let bin = as_bin c.args.bin_slot.now.entries in
    let class = class_at g.K.PartialEq.eq (after g.V.PartialEq.eq g.F.Remap.remapped g.F.Remap.merged)
    (place_of (bins_of c.args.map.now) c.args.class) c.args.bin_slot.now.entries c.args.bin_slot.now.role
    c.requires.lies in
    let on = (λ i. covers (class i) (hash_of c.args.map.now.ledger.salt (g.K.HashKey.code key)))
    ∙ ap (covers c.args.class) (sym c.requires.hash)
    ∙ c.requires.covers in
    IsUpdated-called g.K.PartialEq.eq g.K.HashKey.code g.V.PartialEq.eq g.F.Remap.remapped g.F.Remap.merged
    (goal.G-post g c.args.self.f) c.args.map.now.ledger key c.into_op-op.result c.f-change.result.0 c.f-change.result.1
    c.args.pass.now c.call_in_place.new.pass c.in_ok-reply.reply bin
    (as_bin c.call_in_place.new.bin_slot.entries) c.get.result c.in_ok-reply.ensures.met
    (c.into_op-op.ensures.call key) on (rw c.get-asked.ensures at c.get.ensures) c.f-change.ensures

pub returns-in_err-reply-clause-fails : goal.returns-in_err-reply-clause-fails
returns-in_err-reply-clause-fails g c =
    let key = key_in c.args.self.key in
    let P : Fault → Type 0 = λ fault. (fault ≡ NoMemory)
    × (c.args.map.now.ledger.form ≡ Lean → MayAdd (goal.G-post g c.args.self.f)) in
    IfErr-of P c.from_residual.result NoMemory c.from_residual.ensures.1 (
      refl,
      λ lean. MayAdd-refused g.K.PartialEq.eq g.V.Clone.is_infallible
          c.args.bin_slot.now.entries.entries key c.into_op-op.result c.f-change.result.0 c.f-change.result.1 c.get.result
          (goal.G-post g c.args.self.f) c.into_op-op.ensures.op
          (λ spared. false≢true (c.in_err-reply.ensures.spared spared))
          (rw c.get-asked.ensures at c.get.ensures) c.f-change.ensures,
    )
