-- The order of addresses is total.
use Rattle.std.specs.Cmp.{IsTotalOrder, then_total, on_total, nat_cmp_total}
use Rattle.digest.specs.declared.address.Address.{Address}
use Rattle.digest.specs.Bytes.{address_order}

pub address_total : IsTotalOrder address_order
address_total =
    then_total (on_total (λ (a : Address). a.w0) nat_cmp_total)
    (then_total (on_total (λ (a : Address). a.w1) nat_cmp_total)
    (then_total (on_total (λ (a : Address). a.w2) nat_cmp_total) (on_total (λ (a : Address). a.w3) nat_cmp_total)))
