use Rattle.std.proofs.Common.{◌≡◌, ◌≤◌, ap, subst, sym, ◌∙◌, true, arith}
use Rattle.hashkeys.specs.Classes.{ClassView, IsTableSize, covers}
use Rattle.bin_history.specs.Calls.{after}
use Rattle.bin_layout.specs.BinsWithRoles.{classes_of_bins}
use Rattle.bin_layout.specs.Walks.{IsWalk}
use Rattle.bin_layout.proofs.Lists.{AreBinsWithRoles-more, AreBinsWithRoles-none, IsWalkTo-none, IsWalkTo-more}
use Rattle.bin_layout.proofs.Lists.{IsWalk-all}
use Rattle.generations.proofs.Forms.{fits-more, fits-none}
use Rattle.generations.proofs.generations.Generations.take_all.Goals as goal

pub loop-roles-init : goal.loop-roles-init
loop-roles-init g c = record {
  walk = IsWalkTo-none c.n-n.result c.args.bins.now.items c.new-next.result c.requires.bins
      (ap (λ (x : ClassView). x.index) c.new-next.ensures);
  with_roles = AreBinsWithRoles-none g.K.PartialEq.eq g.K.HashKey.code
      (after g.V.PartialEq.eq g.F.Remap.remapped g.F.Remap.merged) c.args.self.now
      c.args.bins.now.items c.args.roles.now.items c.requires.bins c.requires.roles;
  few = fits-none c.args.self.now c.args.bins.now.items c.requires.bins;
}

pub loop-roles-smaller : goal.loop-roles-smaller
loop-roles-smaller g c =
    omega (
      arith,
      c.push_reserved.ensures.len,
      c.push_reserved.ensures.capacity,
      c.if-len-capacity.true,
      c.len.ensures,
      c.capacity.ensures,
    )

pub loop-roles-preserved : goal.loop-roles-preserved
loop-roles-preserved g c =
    let n_is = c.n-n.ensures.value in
    let size : IsTableSize c.n-n.result = subst IsTableSize (sym n_is) c.n-n.ensures.size in
    let class_is = c.find-class.ensures.class in
    let least : c.n-n.result ≤ c.find-class.result.1.n =
    (let l = c.find-class.ensures.of_map.least in let e = ap (λ (x : ClassView). x.n) class_is in omega arith) in
    let of : covers c.find-class.result.1 c.loop-roles.next.index ≡ true =
    subst (λ (x : ClassView). covers x c.loop-roles.next.index ≡ true) (sym class_is)
    (ap (λ i. covers c.find-class.result.0.now.class i) (sym c.index.ensures) ∙ c.find-class.ensures.covers) in
    let wide : c.loop-roles.next.n ≤ c.find-class.result.1.n =
    (let a = c.n.ensures.value in let b = c.n-in-loop-roles.ensures.value in let ge = c.if-n.false in omega arith) in
    record {
      walk = IsWalkTo-more c.n-n.result c.loop-roles.bins.items c.push_reserved.new.self.items c.in-Some.bin
          c.loop-roles.next c.find-class.result.1 size
          c.n-in-loop-roles.ensures.class c.n.ensures.class least
          c.loop-roles.invariant.walk of wide (c.in-Some.ensures.class ∙ sym class_is) c.push_reserved.ensures.items
          c.in-Some-next_in_walk.class
          c.in-Some-next_in_walk.ensures.next;
      with_roles = AreBinsWithRoles-more g.K.PartialEq.eq g.K.HashKey.code
          (after g.V.PartialEq.eq g.F.Remap.remapped g.F.Remap.merged) c.args.self.now
          c.loop-roles.bins.items c.push_reserved.new.self.items c.loop-roles.roles.items
          c.push_reserved-in-loop-roles.new.self.items
          c.in-Some.bin c.in-Some.role c.loop-roles.invariant.with_roles c.in-Some.ensures.with_role
          c.push_reserved.ensures.items
          c.push_reserved-in-loop-roles.ensures.items;
      few = fits-more c.args.self.now c.loop-roles.bins.items c.push_reserved.new.self.items c.in-Some.bin
          c.find-class.result.1 c.loop-roles.invariant.few (c.in-Some.ensures.class ∙ sym class_is)
          c.find-class.ensures.few c.push_reserved.ensures.items;
    }

pub returns-in-None-clause-walk : goal.returns-in-None-clause-walk
returns-in-None-clause-walk g c = λ ok.
    let n_is = c.n-n.ensures.value in
    let size : IsTableSize c.n-n.result = subst IsTableSize (sym n_is) c.n-n.ensures.size in
    let class_is = c.find-class.ensures.class in
    let least : c.n-n.result ≤ c.find-class.result.1.n =
    (let l = c.find-class.ensures.of_map.least in let e = ap (λ (x : ClassView). x.n) class_is in omega arith) in
    let of : covers c.find-class.result.1 c.loop-roles.next.index ≡ true =
    subst (λ (x : ClassView). covers x c.loop-roles.next.index ≡ true) (sym class_is)
    (ap (λ i. covers c.find-class.result.0.now.class i) (sym c.index.ensures) ∙ c.find-class.ensures.covers) in
    let wide : c.loop-roles.next.n ≤ c.find-class.result.1.n =
    (let a = c.n.ensures.value in let b = c.n-in-loop-roles.ensures.value in let ge = c.if-n.false in omega arith) in
    subst (λ m. IsWalk m (classes_of_bins c.push_reserved.new.self.items)) n_is
    (IsWalk-all c.n-n.result c.loop-roles.bins.items c.push_reserved.new.self.items c.in-Some.bin c.loop-roles.next
    c.find-class.result.1 size
    c.n-in-loop-roles.ensures.class c.n.ensures.class least
    c.loop-roles.invariant.walk of wide (c.in-Some.ensures.class ∙ sym class_is) c.push_reserved.ensures.items
    c.in-None.ensures.last)

pub returns-in-None-clause-with_roles : goal.returns-in-None-clause-with_roles
returns-in-None-clause-with_roles g c = λ ok.
    AreBinsWithRoles-more g.K.PartialEq.eq g.K.HashKey.code (after g.V.PartialEq.eq g.F.Remap.remapped g.F.Remap.merged)
    c.args.self.now c.loop-roles.bins.items
    c.push_reserved.new.self.items c.loop-roles.roles.items c.push_reserved-in-loop-roles.new.self.items
    c.in-Some.bin c.in-Some.role c.loop-roles.invariant.with_roles c.in-Some.ensures.with_role
    c.push_reserved.ensures.items
    c.push_reserved-in-loop-roles.ensures.items

pub returns-in-None-clause-few : goal.returns-in-None-clause-few
returns-in-None-clause-few g c = λ ok.
    fits-more c.args.self.now c.loop-roles.bins.items c.push_reserved.new.self.items c.in-Some.bin c.find-class.result.1
    c.loop-roles.invariant.few (c.in-Some.ensures.class ∙ sym c.find-class.ensures.class) c.find-class.ensures.few
    c.push_reserved.ensures.items
