-- Linked rows without rows.
use Rattle.std.proofs.Common.{◌≡◌, ℕ, ◌<◌, List, [], ◌∷◌, ◌⊎◌, inl, inr, None, length, refl, sym, ap, subst, arith, count_by, is_some}
use Rattle.ss_text.specs.Texts.{Row}
use Rattle.slab.specs.Slab.{Slab}
use Rattle.row_links.specs.declared.chains.Chains.{Chains}
use Rattle.row_links.specs.AllChains.{AllChained}
use Rattle.row_links.specs.LinkedFields.{live_of, IsLinked}
use Rattle.row_links.proofs.Seen.{live_is}
use Rattle.row_links.specs.Chained.{Placed}

module _ (keys : List (List ℕ)) (rows : Slab Row) (c : Chains) (waiting : List Row) where
  some_keys : (ks : List (List ℕ)) → length c.keyed.items ≡ 0 → (length c.keyed.items ≡ length ks) ⊎ ((length c.keyed.items < length ks) × (◌≡◌ {A = Placed} [] []))
  some_keys [] e = inl e
  some_keys (k ∷ ks) e = inr (omega arith, refl)

  no_rows : rows.slots ≡ [] → ((ks : List (List ℕ)) → AllChained c ks []) → length c.keyed.items ≡ 0 → waiting ≡ [] → IsLinked keys rows c waiting []
  no_rows empty chained none waits = record {
    stored = tt;
    count = ap (count_by is_some) empty;
    once = tt;
    chained = chained keys;
    keyed = some_keys keys none;
    room = λ h. absurd (omega (arith, h, ap length waits));
  }

  pub linked_new : rows.slots ≡ [] → ((ks : List (List ℕ)) → AllChained c ks []) → length c.keyed.items ≡ 0 → c.ends ≡ None → waiting ≡ [] → IsLinked keys rows c waiting (live_of rows c)
  linked_new empty chained none no_ends waits =
      let h = no_rows empty chained none waits in
      subst (IsLinked keys rows c waiting) (sym (live_is rows c keys [] h.stored h.count h.chained)) h
