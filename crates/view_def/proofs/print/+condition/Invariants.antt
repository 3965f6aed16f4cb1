use Rattle.std.proofs.Common.{◌≡◌, ◌++◌, codes, map, take}
use Rattle.std.specs.List.{join_by}
use Rattle.view_def.specs.Print.{is_any, is_joined, member_texts}
use Rattle.view_def.specs.RawConditions.{raw_of, raws}
use Rattle.view_def.proofs.print.+condition.Given as goal

abbrev pub invariant-push_all-loop-place : goal.invariant-push_all-loop-place
invariant-push_all-loop-place l =
    l.out.items ≡ l.initial.out.items ++ join_by (λ t. t) (codes " AND ") (member_texts is_joined (raws (map raw_of (take l.place l.members))))

abbrev pub invariant-push_any-loop-place : goal.invariant-push_any-loop-place
invariant-push_any-loop-place l =
    l.out.items ≡ l.initial.out.items ++ join_by (λ t. t) (codes " OR ") (member_texts is_any (raws (map raw_of (take l.place l.members))))
