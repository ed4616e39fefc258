use Rattle.std.proofs.Common.{◌≡◌, [], ◌++◌, All, length, map, replicate}
use Rattle.sm_table.specs.Bodies.{no_past}
use Rattle.sm_table.proofs.bodies.Bodies.new.Given as goal

-- the bodies that are traced, and the bodies that are left
abbrev pub invariant-loop-body : goal.invariant-loop-body
invariant-loop-body g l = record {
  pasts : map (λ run. run.past) l.traced.items
      ++ replicate (length l.body-iterator.rest.items) no_past ≡ replicate (length l.fn.bodies.items) no_past;
  limits : map (λ run. run.limit) l.traced.items
      ++ map g.S.Service.limit l.body-iterator.rest.items ≡ map g.S.Service.limit l.fn.bodies.items;
  initial : All (λ body. g.S.Service.base body ≡ g.S.Service.initial) l.body-iterator.rest.items;
  first : All (λ body. g.S.Service.before body ≡ 0) l.body-iterator.rest.items;
  empty : All (λ body. g.S.Service.requests body ≡ []) l.body-iterator.rest.items;
}
