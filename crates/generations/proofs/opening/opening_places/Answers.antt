use Rattle.std.proofs.Common.{◌≡◌, ◌-◌, ◌<◌, [], ◌∷◌, ◌++◌, inl, refl, length, map, Vec, ap, sym, subst, ◌∙◌, arith}
use Rattle.std.specs.List.{range_with_len}
use Rattle.std.specs.Vec.Iter.{into_iter_items}
use Rattle.std.proofs.lemmas.List.{length-map}
use Rattle.std.proofs.lemmas.List.Elements.{All-get_or}
use Rattle.std.proofs.lemmas.List.FromFn.{map-range_with_len_more}
use Rattle.bin_history.specs.Entries.{HasDistinctKeys}
use Rattle.count_ledger.specs.Opening.{lists_of, new_role}
use Rattle.bin_layout.proofs.Openings.{first_of_range, first_of_rest, base_of_class, role_of_base, length-new_roles}
use Rattle.generations.proofs.Indexes.{tag_at, IsTable-all}
use Rattle.generations.proofs.opening.opening_places.Goals as goal

pub loop-index-init : goal.loop-index-init
loop-index-init g c =
    let (id, made) = c.requires.roles in
    let count = c.requires.count in
    let lists : length (lists_of c.args.bases) ≡ c.args.n - 0 =
    omega (arith, length-map c.args.bases.items (λ (b : Vec _ _). b.items)) in
    let roles_len = length-new_roles id c.args.salt c.args.bases c.args.roles.items made in
    record {
      roles = λ ledger e. c.into_iter-roles.ensures.rest ∙ e
          ∙ ap (λ m. map (new_role ledger c.args.salt (lists_of c.args.bases)) (range_with_len 0 m)) lists;
      roles_left = omega (arith, c.into_iter-roles.ensures.len, c.args.roles.ok.0, roles_len);
      bases = c.into_iter-bases.ensures.rest;
      bases_left = omega (arith, c.into_iter-bases.ensures.len, c.args.bases.ok.0);
      places = λ ledger e. c.in_ok-places.ensures.items;
      len = c.in_ok-places.ensures.len;
      room = omega (arith, c.in_ok-places.ensures.exact);
    }

pub opening_place-requires-clause-distinct : goal.opening_place-requires-clause-distinct
opening_place-requires-clause-distinct g c =
    let count = c.requires.count in
    let below : c.loop-index.index < length c.args.bases.items = omega (arith, c.loop-index-test.true) in
    let base = first_of_rest c.args.bases.items c.loop-index.index c.in-Some.base (into_iter_items c.next.new.self)
    (into_iter_items c.loop-index.bases) below c.loop-index.invariant.bases c.in-Some.ensures.items in
    subst (λ (b : Vec _ _). HasDistinctKeys g.K.PartialEq.eq b.items) (sym base.0)
    (All-get_or (λ (b : Vec _ _). HasDistinctKeys g.K.PartialEq.eq b.items) c.args.bases.items c.loop-index.index
    c.in-Some.base below c.requires.distinct)

pub opening_place-requires-clause-of_class : goal.opening_place-requires-clause-of_class
opening_place-requires-clause-of_class g c =
    let count = c.requires.count in
    let below : c.loop-index.index < length c.args.bases.items = omega (arith, c.loop-index-test.true) in
    let base = first_of_rest c.args.bases.items c.loop-index.index c.in-Some.base (into_iter_items c.next.new.self)
    (into_iter_items c.loop-index.bases) below c.loop-index.invariant.bases c.in-Some.ensures.items in
    base_of_class g.K.HashKey.code c.args.salt c.args.bases c.requires.of_class c.loop-index.index below c.in-Some.base
    base.0 c.new-class.result
    (c.new-class.ensures ∙ ap (λ m. record { n = m; index = c.loop-index.index }) (sym count))

pub opening_place-requires-clause-role : goal.opening_place-requires-clause-role
opening_place-requires-clause-role g c =
    let (id, made) = c.requires.roles in
    let count = c.requires.count in
    let below : c.loop-index.index < length c.args.bases.items = omega (arith, c.loop-index-test.true) in
    let base = first_of_rest c.args.bases.items c.loop-index.index c.in-Some.base (into_iter_items c.next.new.self)
    (into_iter_items c.loop-index.bases) below c.loop-index.invariant.bases c.in-Some.ensures.items in
    let role = first_of_range (new_role id c.args.salt (lists_of c.args.bases)) c.loop-index.index c.args.n
    c.in-Some-next.role
    (into_iter_items c.next-in-loop-index.new.self) (into_iter_items c.loop-index.roles) c.loop-index-test.true
    (c.loop-index.invariant.roles id made) c.in-Some-next.ensures.items in
    role_of_base g.K.HashKey.code c.args.salt c.args.bases c.requires.of_class c.loop-index.index below c.in-Some.base
    base.0 c.new-class.result
    (c.new-class.ensures ∙ ap (λ m. record { n = m; index = c.loop-index.index }) (sym count)) id
    c.in-Some-next.role role.0

pub loop-index-preserved : goal.loop-index-preserved
loop-index-preserved g c =
    let count = c.requires.count in
    let kept = c.loop-index.invariant in
    let below : c.loop-index.index < length c.args.bases.items = omega (arith, c.loop-index-test.true) in
    let base = first_of_rest c.args.bases.items c.loop-index.index c.in-Some.base (into_iter_items c.next.new.self)
    (into_iter_items c.loop-index.bases) below kept.bases c.in-Some.ensures.items in
    record {
      roles = λ ledger e.
          (first_of_range (new_role ledger c.args.salt (lists_of c.args.bases)) c.loop-index.index c.args.n
          c.in-Some-next.role (into_iter_items
          c.next-in-loop-index.new.self) (into_iter_items c.loop-index.roles) c.loop-index-test.true
          (kept.roles ledger e) c.in-Some-next.ensures.items).1;
      roles_left = omega (arith, kept.roles_left, c.in-Some-next.ensures.len, c.loop-index-test.true);
      bases = base.1;
      bases_left = omega (arith, kept.bases_left, c.in-Some.ensures.len, c.loop-index-test.true);
      places = λ ledger e.
          let role = first_of_range (new_role ledger c.args.salt (lists_of c.args.bases)) c.loop-index.index c.args.n
          c.in-Some-next.role (into_iter_items
          c.next-in-loop-index.new.self) (into_iter_items c.loop-index.roles) c.loop-index-test.true
          (kept.roles ledger e) c.in-Some-next.ensures.items in
          let place : c.in_ok-place.place
          ≡ tag_at (record { ledger = ledger; form = c.args.form; salt = c.args.salt; n = c.args.n }) c.args.n
          c.loop-index.index = c.in_ok-place.ensures
          ∙ (λ x. record {
            class = c.new-class.ensures x;
            form = c.args.form;
            salt = c.args.salt;
            ledger =
                ap (λ r. r.ledger) role.0 x;
          }) in
          c.push_reserved.ensures.items ∙ (λ x. kept.places ledger e x ++ place x ∷ [])
          ∙ sym (map-range_with_len_more (tag_at (record {
            ledger = ledger;
            form = c.args.form;
            salt = c.args.salt;
            n = c.args.n;
          }) c.args.n) 0 c.loop-index.index c.loop-index.index (omega arith));
      len = omega (arith, c.push_reserved.ensures.len, kept.len);
      room = omega (arith, c.push_reserved.ensures.capacity, kept.room);
    }

pub returns-clause-places : goal.returns-clause-places
returns-clause-places g c = λ ledger e.
    let kept = c.loop-index.invariant in
    let all : c.loop-index.index ≡ c.args.n = omega (arith, c.loop-index-test.false, c.loop-index.auto.index-end) in
    IsTable-all (record { ledger = ledger; form = c.args.form; salt = c.args.salt; n = c.args.n }) c.args.n
    c.loop-index.places.items c.requires.size
    (omega arith) (λ recorded. inl refl) (omega (arith, c.loop-index.places.ok.0, kept.len, all))
    (kept.places ledger e
    ∙ ap (λ (m : _). map
    (tag_at (record { ledger = ledger; form = c.args.form; salt = c.args.salt; n = c.args.n }) c.args.n)
    (range_with_len 0 m)) all)
