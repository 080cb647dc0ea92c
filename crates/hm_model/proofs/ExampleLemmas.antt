-- The examples are legal.
use Rattle.std.proofs.Common.{◌≡◌, ℕ, ◌+◌, ◌≤◌, true, false, [], ◌∷◌, ◌++◌, refl, subst, inl, inr, arith}
use Rattle.std.specs.Prelude.{codes}
use Rattle.std.specs.Bool.{nat_le}
use Rattle.std.specs.Fmt.{char_count, digits, padded_integral}
use Rattle.std.proofs.lemmas.Bool.Decides.{nat_tests}
use Rattle.hm_path.specs.Path.{IsPath}
use Rattle.hm_model.specs.After.{Event, State}
use Rattle.hm_model.specs.Caused.{Counts, HasNumbers, Known, takes_stream}
use Rattle.hm_model.specs.Examples.{a_foreign_stream, a_pruned_end, a_stream_is_sent, a_stream_of_nobody, an_upgrade, by_id, by_name, fed_with}
use Rattle.hm_model.specs.Examples.{mirror_copies, of_new_volume, of_nobody, on_fresh, on_new, new_volume, reads_of_the_past, snapshots_and_prune}
use Rattle.hm_model.specs.Examples.{stream_end}
use Rattle.hm_model.specs.Foreign.{ForeignMaster, StreamEnd}
use Rattle.hm_types.specs.Hash.{name_hash}
use Rattle.hm_model.specs.Laws.{AreRising, ShowsTrees, versions_of}
use Rattle.hm_model.specs.Volume.{at}
use Rattle.hm_model.specs.Legal.{IsLegal, IsUndamaged, NamesAdded}
use Rattle.hm_model.specs.Sites.{ReadsWords}
use Rattle.hm_model.specs.After.{call_of}
use Rattle.hm_model.proofs.ReadingLemmas.{dated, named, path}
use Rattle.hm_model.proofs.StepByStepLemmas.{CanFollow, IsAllowedOn, IsLegal-steps, by_tests, early_step, is_in_order}

-- an event that takes no stream and tells nothing that needs a cause
step : (now : Counts) (least : ℕ) (known : Known) (state : State) (event : Event) → event.entry.id.0 ≡ known.last + 1 →
    is_in_order known state event ≡ true → takes_stream event.entry ≡ false → ReadsWords event.entry.call event.paths → HasNumbers now known event.entry →
    IsAllowedOn least state event → NamesAdded (call_of name_hash state event) event.entry.reply → IsUndamaged event.entry.reply →
    CanFollow now least known state event
step now least known state event id order takes read numbers allowed names undamaged =
    by_tests now least known state event id order read numbers allowed names (λ is. absurd (cc)) undamaged

-- one number is at most another where a test says so
within : {a b : ℕ} → nat_le a b ≡ true → a ≤ b
within {a} {b} is = grind (arith, nat_tests, is)

-- the paths of the examples
path_as_of_2_f : IsPath (codes "/@@0x0000000000000002/f") (by_id 2 ∷ by_name (codes "f") ∷ [])
path_as_of_2_f =
    path (codes "/@@0x0000000000000002/f") (by_id 2 ∷ by_name (codes "f") ∷ []) refl refl refl
    (dated (codes "0000000000000002") refl refl, (named (codes "f") refl, tt))

path_as_of_3_f : IsPath (codes "/@@0x0000000000000003/f") (by_id 3 ∷ by_name (codes "f") ∷ [])
path_as_of_3_f =
    path (codes "/@@0x0000000000000003/f") (by_id 3 ∷ by_name (codes "f") ∷ []) refl refl refl
    (dated (codes "0000000000000003") refl refl, (named (codes "f") refl, tt))

path_as_of_4_f : IsPath (codes "/@@0x0000000000000004/f") (by_id 4 ∷ by_name (codes "f") ∷ [])
path_as_of_4_f =
    path (codes "/@@0x0000000000000004/f") (by_id 4 ∷ by_name (codes "f") ∷ []) refl refl refl
    (dated (codes "0000000000000004") refl refl, (named (codes "f") refl, tt))

path_as_of_6_f : IsPath (codes "/@@0x0000000000000006/f") (by_id 6 ∷ by_name (codes "f") ∷ [])
path_as_of_6_f =
    path (codes "/@@0x0000000000000006/f") (by_id 6 ∷ by_name (codes "f") ∷ []) refl refl refl
    (dated (codes "0000000000000006") refl refl, (named (codes "f") refl, tt))

path_as_of_7_f : IsPath (codes "/@@0x0000000000000007/f") (by_id 7 ∷ by_name (codes "f") ∷ [])
path_as_of_7_f =
    path (codes "/@@0x0000000000000007/f") (by_id 7 ∷ by_name (codes "f") ∷ []) refl refl refl
    (dated (codes "0000000000000007") refl refl, (named (codes "f") refl, tt))

path_f : IsPath (codes "/f") (by_name (codes "f") ∷ [])
path_f = path (codes "/f") (by_name (codes "f") ∷ []) refl refl refl (named (codes "f") refl, tt)

path_m : IsPath (codes "/m") (by_name (codes "m") ∷ [])
path_m = path (codes "/m") (by_name (codes "m") ∷ []) refl refl refl (named (codes "m") refl, tt)

path_m_a : IsPath (codes "/m/a") (by_name (codes "m") ∷ by_name (codes "a") ∷ [])
path_m_a = path (codes "/m/a") (by_name (codes "m") ∷ by_name (codes "a") ∷ []) refl refl refl (named (codes "m") refl, (named (codes "a") refl, tt))

path_m_b : IsPath (codes "/m/b") (by_name (codes "m") ∷ by_name (codes "b") ∷ [])
path_m_b = path (codes "/m/b") (by_name (codes "m") ∷ by_name (codes "b") ∷ []) refl refl refl (named (codes "m") refl, (named (codes "b") refl, tt))

path_root : IsPath (codes "/") ([])
path_root = path (codes "/") ([]) refl refl refl tt

path_s : IsPath (codes "/s") (by_name (codes "s") ∷ [])
path_s = path (codes "/s") (by_name (codes "s") ∷ []) refl refl refl (named (codes "s") refl, tt)

path_s_c : IsPath (codes "/s/c") (by_name (codes "s") ∷ by_name (codes "c") ∷ [])
path_s_c = path (codes "/s/c") (by_name (codes "s") ∷ by_name (codes "c") ∷ []) refl refl refl (named (codes "s") refl, (named (codes "c") refl, tt))

path_s_one : IsPath (codes "/s/one") (by_name (codes "s") ∷ by_name (codes "one") ∷ [])
path_s_one = path (codes "/s/one") (by_name (codes "s") ∷ by_name (codes "one") ∷ []) refl refl refl (named (codes "s") refl, (named (codes "one") refl, tt))

path_s_two : IsPath (codes "/s/two") (by_name (codes "s") ∷ by_name (codes "two") ∷ [])
path_s_two = path (codes "/s/two") (by_name (codes "s") ∷ by_name (codes "two") ∷ []) refl refl refl (named (codes "s") refl, (named (codes "two") refl, tt))

path_t : IsPath (codes "/t") (by_name (codes "t") ∷ [])
path_t = path (codes "/t") (by_name (codes "t") ∷ []) refl refl refl (named (codes "t") refl, tt)

pub legal-reads_of_the_past : IsLegal on_fresh reads_of_the_past
legal-reads_of_the_past = IsLegal-steps on_fresh reads_of_the_past (
  step _ _ _ _ _ refl refl refl (path_f, tt) tt (inl refl) tt tt,
  (
    step _ _ _ _ _ refl refl refl (path_f, tt) tt (inl refl) tt tt,
    (
      step _ _ _ _ _ refl refl refl (path_f, tt) tt (inl refl) tt tt,
      (
        step _ _ _ _ _ refl refl refl (path_as_of_3_f, tt) tt (inl refl) tt tt,
        (
          step _ _ _ _ _ refl refl refl (path_as_of_4_f, tt) tt (inl refl) tt tt,
          (
            step _ _ _ _ _ refl refl refl (path_f, tt) tt (inl refl) tt tt,
            (
              step _ _ _ _ _ refl refl refl (path_as_of_2_f, tt) tt (inl refl) tt tt,
              tt,
            ),
          ),
        ),
      ),
    ),
  ),
)

pub legal-snapshots_and_prune : IsLegal on_fresh snapshots_and_prune
unfolding padded_integral char_count digits
legal-snapshots_and_prune = IsLegal-steps on_fresh snapshots_and_prune (
  step _ _ _ _ _ refl refl refl (path_f, tt) tt (inl refl) tt tt,
  (
    step _ _ _ _ _ refl refl refl (path_f, tt) tt (inl refl) tt tt,
    (
      step _ _ _ _ _ refl refl refl (path_s, tt) tt (inl refl) tt tt,
      (
        step _ _ _ _ _ refl refl refl (path_s_one, tt) tt (inl refl) tt tt,
        (
          step _ _ _ _ _ refl refl refl (path_f, tt) tt (inl refl) tt tt,
          (
            step _ _ _ _ _ refl refl refl (path_f, tt) tt (inl refl) tt tt,
            (
              step _ _ _ _ _ refl refl refl (path_s_two, tt) tt (inl refl) tt tt,
              (
                step _ _ _ _ _ refl refl refl (path_f, tt) tt (inl refl) tt tt,
                (
                  step _ _ _ _ _ refl refl refl (path_s, tt) tt (inl refl) tt tt,
                  (
                    step _ _ _ _ _ refl refl refl tt tt (_, refl, tt) tt tt,
                    (
                      step _ _ _ _ _ refl refl refl (path_as_of_4_f, tt) tt (inl refl) tt tt,
                      (
                        step _ _ _ _ _ refl refl refl (path_as_of_6_f, tt) tt (inl refl) tt tt,
                        (
                          step _ _ _ _ _ refl refl refl (path_as_of_7_f, tt) tt (inl refl) tt tt,
                          (
                            step _ _ _ _ _ refl refl refl (path_f, tt) tt (inl refl) tt tt,
                            (
                              step _ _ _ _ _ refl refl refl (path_root, tt) tt (inl refl) tt tt,
                              (
                                step _ _ _ _ _ refl refl refl (path_root, tt) tt (inl refl) tt tt,
                                (
                                  step _ _ _ _ _ refl refl refl (path_s_one, tt) tt (inl refl) tt tt,
                                  tt,
                                ),
                              ),
                            ),
                          ),
                        ),
                      ),
                    ),
                  ),
                ),
              ),
            ),
          ),
        ),
      ),
    ),
  ),
)

pub legal-mirror_copies : IsLegal on_fresh mirror_copies
legal-mirror_copies = IsLegal-steps on_fresh mirror_copies (
  step _ _ _ _ _ refl refl refl (path_m, tt) tt (inl refl) refl tt,
  (
    step _ _ _ _ _ refl refl refl (path_s, tt) tt (inl refl) refl tt,
    (
      step _ _ _ _ _ refl refl refl (path_m_a, tt) tt (inl refl) tt tt,
      (
        step _ _ _ _ _ refl refl refl (path_m_a, tt) tt (inl refl) tt tt,
        (
          step _ _ _ _ _ refl refl refl (path_m, (path_s, tt)) tt (inl refl) tt tt,
          (
            step _ _ _ _ _ refl refl refl tt tt (
              _,
              refl,
              record
                  { begins = refl; ends = (record { opened = omega arith; before = omega arith }, inl (omega arith, omega arith)); fits = within refl },
            ) tt tt,
            (
              step _ _ _ _ _ refl refl refl (path_m_b, tt) tt (inl refl) tt tt,
              (
                step _ _ _ _ _ refl refl refl (path_m, (path_s, tt)) tt (inl refl) tt tt,
                (
                  step _ _ _ _ _ refl refl refl tt refl (_, refl, refl) tt tt,
                  (
                    step _ _ _ _ _ refl refl refl (path_s, tt) tt (inl refl) tt tt,
                    (
                      step _ _ _ _ _ refl refl refl (path_m, (path_s, tt)) tt (inl refl) tt tt,
                      (
                        step _ _ _ _ _ refl refl refl tt tt (
                          _,
                          refl,
                          record {
                            begins = refl;
                            ends = (record { opened = omega arith; before = omega arith }, inl (omega arith, omega arith));
                            fits =
                                within refl;
                          },
                        ) tt tt,
                        (
                          step _ _ _ _ _ refl refl refl (path_s, tt) tt (inl refl) tt tt,
                          (
                            step _ _ _ _ _ refl refl refl (path_s_c, tt) tt (inl refl) tt tt,
                            (
                              step _ _ _ _ _ refl refl refl (path_s, tt) tt (inl refl) tt tt,
                              tt,
                            ),
                          ),
                        ),
                      ),
                    ),
                  ),
                ),
              ),
            ),
          ),
        ),
      ),
    ),
  ),
)

pub legal-an_upgrade : IsLegal on_fresh an_upgrade
legal-an_upgrade = IsLegal-steps on_fresh an_upgrade (
  step _ _ _ _ _ refl refl refl (path_m, tt) tt (inl refl) refl tt,
  (
    step _ _ _ _ _ refl refl refl (path_s, tt) tt (inl refl) refl tt,
    (
      step _ _ _ _ _ refl refl refl (path_m_a, tt) tt (inl refl) tt tt,
      (
        step _ _ _ _ _ refl refl refl (path_m, (path_s, tt)) tt (inl refl) tt tt,
        (
          step _ _ _ _ _ refl refl refl tt tt (
            _,
            refl,
            record
                { begins = refl; ends = (record { opened = omega arith; before = omega arith }, inl (omega arith, omega arith)); fits = within refl },
          ) tt tt,
          (
            step _ _ _ _ _ refl refl refl (path_m_b, tt) tt (inl refl) tt tt,
            (
              step _ _ _ _ _ refl refl refl (path_m, (path_s, tt)) tt (inl refl) tt tt,
              (
                step _ _ _ _ _ refl refl refl tt refl (_, refl, refl) tt tt,
                (
                  step _ _ _ _ _ refl refl refl (path_s, tt) tt (inl refl) tt tt,
                  (
                    step _ _ _ _ _ refl refl refl tt tt (_, refl, tt) tt tt,
                    (
                      step _ _ _ _ _ refl refl refl (path_s, tt) tt (inl refl) tt tt,
                      (
                        step _ _ _ _ _ refl refl refl (path_s_c, tt) tt (inl refl) tt tt,
                        (
                          step _ _ _ _ _ refl refl refl (path_s, tt) tt (inl refl) tt tt,
                          tt,
                        ),
                      ),
                    ),
                  ),
                ),
              ),
            ),
          ),
        ),
      ),
    ),
  ),
)

pub legal-a_stream_is_sent : IsLegal (on_new 24) a_stream_is_sent
legal-a_stream_is_sent = IsLegal-steps (on_new 24) a_stream_is_sent (
  step _ _ _ _ _ refl refl refl (path_root, tt) tt (inl refl) tt tt,
  (
    step _ _ _ _ _ refl refl refl tt tt (
      _,
      refl,
      record
          { begins = refl; ends = (record { opened = omega arith; before = omega arith }, inl (omega arith, omega arith)); fits = within refl },
    ) tt tt,
    tt,
  ),
)

pub legal-a_pruned_end : IsLegal on_fresh a_pruned_end
legal-a_pruned_end = IsLegal-steps on_fresh a_pruned_end (
  step _ _ _ _ _ refl refl refl (path_f, tt) tt (inl refl) tt tt,
  (
    step _ _ _ _ _ refl refl refl (path_root, tt) tt (inl refl) tt tt,
    (
      early_step _ _ _ _ _ refl refl refl refl refl (path_root, tt) tt (inl refl) tt,
      (
        step _ _ _ _ _ refl refl refl (path_root, tt) tt (inl refl) tt tt,
        (
          step _ _ _ _ _ refl refl refl tt tt (_, refl, tt) tt tt,
          (
            step _ _ _ _ _ refl refl refl tt tt (
              _,
              refl,
              record {
                between = record { opened = omega arith; before = omega arith };
                gone =
                    λ kept. elim kept [ inl held ↦ omega (arith, held.0) | inr none ↦ absurd none ];
                kept = inl (omega arith, omega arith);
                above = omega arith;
                least = λ t above kept. elim kept [ inl held ↦ held.0 | inr none ↦ absurd none ];
              },
            ) tt tt,
            tt,
          ),
        ),
      ),
    ),
  ),
)

pub legal-a_foreign_stream : IsLegal (fed_with (of_new_volume ∷ [])) a_foreign_stream
legal-a_foreign_stream = IsLegal-steps (fed_with (of_new_volume ∷ [])) a_foreign_stream (
  step _ _ _ _ _ refl refl refl (path_s, tt) tt (inl refl) refl tt,
  (
    by_tests _ _ _ _ _ refl refl (path_s, tt) tt (inl refl) tt (λ is. record { feed = _; later = _; left = refl }) tt,
    (
      step _ _ _ _ _ refl refl refl tt tt (
        _,
        refl,
        record {
          begins = refl;
          ends = (
            record { term = stream_end; taken = refl; named = refl; kept = inl (omega arith, omega arith) },
            omega arith,
            within refl,
          );
          fits = within refl;
        },
      ) tt tt,
      (
        step _ _ _ _ _ refl refl refl (path_s, tt) tt (inl refl) tt tt,
        (
          step _ _ _ _ _ refl refl refl (path_t, tt) tt (inl refl) tt tt,
          tt,
        ),
      ),
    ),
  ),
)

pub legal-a_stream_of_nobody : IsLegal (fed_with (of_nobody ∷ [])) a_stream_of_nobody
legal-a_stream_of_nobody = IsLegal-steps (fed_with (of_nobody ∷ [])) a_stream_of_nobody (
  step _ _ _ _ _ refl refl refl (path_s, tt) tt (inl refl) refl tt,
  (
    by_tests _ _ _ _ _ refl refl (path_s, tt) tt (inl refl) tt (λ is. record { feed = _; later = _; left = refl }) tt,
    (
      step _ _ _ _ _ refl refl refl tt tt (
        _,
        refl,
        record {
          begins = refl;
          ends = (
            record { term = stream_end; taken = refl; named = refl; kept = inl (omega arith, omega arith) },
            omega arith,
            within refl,
          );
          fits = within refl;
        },
      ) tt tt,
      (
        step _ _ _ _ _ refl refl refl (path_s, tt) tt (inl refl) tt tt,
        (
          step _ _ _ _ _ refl refl refl (path_t, tt) tt (inl refl) tt tt,
          tt,
        ),
      ),
    ),
  ),
)

-- the stream of the new volume shows that volume's trees
pub shows-new_volume : ShowsTrees 1 (λ id. true) (at new_volume.volume 0) of_new_volume
shows-new_volume = record {
  rising = λ m is same. let one : new_volume ≡ m = cc in subst (λ (n : ForeignMaster). AreRising (versions_of n.volume n.master)) one (omega arith, tt);
  same = λ m is same id kept by. let one : new_volume ≡ m = cc in subst (λ (n : ForeignMaster). at n.volume n.master id ≡ at new_volume.volume 0 id) one refl;
  ends = λ m t is brought.
      let one : new_volume ≡ m = cc in
      let end : stream_end ≡ t = cc in
      subst (λ (n : ForeignMaster). t.end ≤ n.end) one (subst (λ (u : StreamEnd). u.end ≤ 2) end (omega arith));
}
