use Rattle.std.proofs.Common.{◌≡◌, ℕ, ◌+◌, ◌-◌, ◌∷◌, ◌++◌, List, [], length, sym, ap, ◌∙◌, inl, inr, append_assoc, arith}
use Rattle.std.proofs.lemmas.List.{length-append, length-set}
use Rattle.facing_maps.proofs.Walking.{length_snoc, front_snoc, rest_snoc, lens_snoc, lens_stay, copied_of, too_many}
use Rattle.facing_maps.specs.Pairs.{IsAll}
use Rattle.facing_maps.proofs.pairs.copy_pairs.Goals.{then-count-key_lens-via-then-count-key_lens}
use Rattle.facing_maps.proofs.pairs.copy_pairs.Goals.{then-count-key_lens-via-else-count-key_lens+then-count-numbers}
use Rattle.facing_maps.proofs.pairs.copy_pairs.Goals.{then-count-key_lens-via-else-count-key_lens+else-count-numbers+then-not-fits}
use Rattle.facing_maps.proofs.pairs.copy_pairs.Goals as goal

pub loop-pair-preserved : goal.loop-pair-preserved
loop-pair-preserved g c =
    let laid = g.L.Laying.laid c.args.laying.now in
    let number = g.L.Laying.number c.args.laying.now in
    let (done, all, long, in_keys, in_values, in_room, used_is, keys_are, values_are, bytes_are, keys_stay, values_stay, bytes_stay)
    = c.loop-pair.invariant in
    let e = c.in-Some.pair.now in
    let k = c.bytes-key.result.now in
    let v = c.laid-value.result.now in
    let k_is : k ≡ e.0.bytes = c.bytes-key.ensures in
    let v_is : v ≡ laid e.1 = c.laid-value.ensures in
    let n = c.loop-pair.count in
    let used = c.loop-pair.used in
    let room = c.loop-pair.room in
    let one = c.copy_at.new.room in
    let two = c.copy_at-in-Some.new.room in
    let below_keys = c.if-count-key_lens.false in
    let below_values = c.if-count-numbers.false in
    let fits = c.fits.ensures.room c.if-not-fits.false in (
      done ++ e ∷ [],
      append_assoc done (e ∷ []) c.in-Some.tail.now ∙ ap (λ (l : List _). done ++ l) (sym c.in-Some.ensures.cases.0) ∙ all,
      omega (arith, length-append done (e ∷ []), long),
      omega (arith, length-set c.loop-pair.key_lens n (length k), below_keys),
      omega (arith, length-set c.loop-pair.numbers n c.number.result, below_values),
      omega (arith, c.copy_at.ensures.len, c.copy_at-in-Some.ensures.len, fits, in_room),
      length_snoc laid done e k v used k_is v_is used_is,
      lens_snoc (λ pair. length pair.0.bytes) done e n (length k) c.loop-pair.key_lens below_keys (ap length k_is) keys_are,
      lens_snoc (λ pair. number pair.1) done e n c.number.result c.loop-pair.numbers below_values c.number.ensures values_are,
      front_snoc laid done e k v used room one two k_is v_is bytes_are c.copy_at.ensures.front
          c.copy_at-in-Some.ensures.front,
      lens_stay n (length k) c.loop-pair.key_lens c.args.key_lens.now keys_stay,
      lens_stay n c.number.result c.loop-pair.numbers c.args.numbers.now values_stay,
      rest_snoc used (length k) (length v) c.args.room.now room one two bytes_stay c.copy_at.ensures.rest
          c.copy_at-in-Some.ensures.rest,
    )

pub returns-in_default : goal.returns-in_default
returns-in_default g c =
    let laid = g.L.Laying.laid c.args.laying.now in
    let number = g.L.Laying.number c.args.laying.now in
    let (done, all, long, in_keys, in_values, in_room, used_is, keys_are, values_are, bytes_are, keys_stay, values_stay, bytes_stay)
    = c.loop-pair.invariant in
    let rest = c.loop-pair.rest.now in
    let lengths : length done + length rest ≡ length c.args.pairs.now = sym (length-append done rest) ∙ ap length all in
    let none : length rest ≡ 0 = c.in_default.ensures.cases in
    copied_of laid number c.args.pairs.now done rest (c.args.key_lens.now, c.args.numbers.now, c.args.room.now)
    (c.loop-pair.key_lens, c.loop-pair.numbers, c.loop-pair.room) c.loop-pair.count c.loop-pair.used all long used_is
    keys_are values_are bytes_are keys_stay values_stay bytes_stay (inl (omega (arith, lengths, none, long)))

pub returns-then-count-key_lens : goal.returns-then-count-key_lens
returns-then-count-key_lens g c =
    let laid = g.L.Laying.laid c.args.laying.now in
    let number = g.L.Laying.number c.args.laying.now in
    let (done, all, long, in_keys, in_values, in_room, used_is, keys_are, values_are, bytes_are, keys_stay, values_stay, bytes_stay)
    = c.loop-pair.invariant in
    let e = c.in-Some.pair.now in
    let k = c.bytes-key.result.now in
    let v = c.laid-value.result.now in
    let k_is : k ≡ e.0.bytes = c.bytes-key.ensures in
    let v_is : v ≡ laid e.1 = c.laid-value.ensures in
    let n = c.loop-pair.count in
    let whole : IsAll number laid c.args.pairs.now (c.loop-pair.key_lens, c.loop-pair.numbers, c.loop-pair.room) n
    = elim c.then-count-key_lens.branch [
      | then-count-key_lens-via-then-count-key_lens w ↦ let full = w.if-count-key_lens.true in
          inr (inl (omega (arith, full, in_keys)))
      | then-count-key_lens-via-else-count-key_lens+then-count-numbers w ↦ let full = w.if-count-numbers.true in
          inr (inr (inl (omega (arith, full, in_values))))
      | then-count-key_lens-via-else-count-key_lens+else-count-numbers+then-not-fits w ↦
          let full = w.fits.ensures.full w.if-not-fits.true in
          inr (inr (inr (too_many laid c.args.pairs.now done c.in-Some.tail.now e k v n c.loop-pair.used
          (length c.loop-pair.room - c.loop-pair.used) (length c.loop-pair.room)
          (ap (λ (l : List _). done ++ l) (sym c.in-Some.ensures.cases.0) ∙ all) long k_is v_is used_is (omega (arith, in_room)) full)))
    ] in
    copied_of laid number c.args.pairs.now done c.loop-pair.rest.now
    (c.args.key_lens.now, c.args.numbers.now, c.args.room.now)
    (c.loop-pair.key_lens, c.loop-pair.numbers, c.loop-pair.room) n c.loop-pair.used all long used_is keys_are values_are
    bytes_are keys_stay values_stay bytes_stay whole
