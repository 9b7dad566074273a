use Rattle.std.proofs.Common.{refl, rules}
use Rattle.std.specs.Ordering.{nat_cmp, on, flip_args}
use Rattle.std.specs.Cmp.{nat_cmp_total}
use Rattle.std.proofs.lemmas.Cmp.{on_total, back_total}
use borrow.Author.Tests.{tests}
use Rattle.walk_rest.specs.declared.entry.DirEntry.{DirEntry}
use Rattle.walk_tests.proofs.orders.check_orders.Goals as goal

pub answers-by_ino-requires : goal.answers-by_ino-requires
answers-by_ino-requires g c = (on (λ (entry : DirEntry). entry.ino) nat_cmp, ((λ (entry : DirEntry). entry.ino), (λ entry key returns. search (rules, tests)), refl))

pub answers-deepest_first-requires : goal.answers-deepest_first-requires
answers-deepest_first-requires g c =
    (flip_args (on (λ (entry : DirEntry). entry.depth) nat_cmp), (back_total (on_total (λ (entry : DirEntry). entry.depth) nat_cmp_total), λ a b answer returns. search (rules, tests)))
