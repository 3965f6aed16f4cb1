-- What is known of the views behind answers that a view may give.
use Rattle.std.proofs.Common.{◌≡◌, Bool, true, false, List, [], ◌∷◌, refl, ◌∙◌}
use Rattle.std.specs.Prelude.{None}
use Rattle.schema_model.specs.Sound.{IsSound}
use Rattle.schema_model.proofs.SoundAfter.{sound_after_all}
use Rattle.view_stages.specs.Open.{OpenValue}
use Rattle.view_stages.specs.Stages.{refusal_of}
use Rattle.opened_view.specs.Answers.{Said, Tells, Scripts, Syncs, Answer, synced_view}
use Rattle.upkeep_law.specs.Given.{AreAlike, sync_by, MayGive, AreGiven}
use Rattle.upkeep_law.specs.Lists.{view_after}

-- a sync leaves the same view, whether it saves the sources or not
pub sync_alike : (saves : Bool) (o p : OpenValue) → AreAlike (sync_by saves o).view p → AreAlike (synced_view o) p
sync_alike true o p h = h
sync_alike false o p h = h

module _ (saves : Bool) where
  -- the query stays
  query_stays : (o : OpenValue) (a : Answer) (said : Said) → MayGive saves o a said → a.view.session.query ≡ o.session.query
  query_stays o a Tells h = h.alike.query
  query_stays o a (Scripts lines) h = h.prints.alike.query
  query_stays o a Syncs h = (sync_alike saves o a.view h.alike).query

  pub given_query : (o : OpenValue) (answers : List Answer) → AreGiven saves o answers → (view_after o answers).session.query ≡ o.session.query
  given_query o [] h = refl
  given_query o (a ∷ answers) h = given_query a.view answers h.1 ∙ query_stays o a a.said h.0

  pub first_query : (o : OpenValue) (a : Answer) → MayGive saves o a a.said → a.view.session.query ≡ o.session.query
  first_query o a h = query_stays o a a.said h

  -- the catalogue stays sound
  sound_stays : (o : OpenValue) (a : Answer) (said : Said) → MayGive saves o a said → IsSound o.session.catalogue → IsSound a.view.session.catalogue
  sound_stays o a Tells h sound = rw h.alike.catalogue sound
  sound_stays o a (Scripts lines) h sound = rw h.prints.alike.catalogue (sound_after_all o.session.catalogue h.changes sound h.formed h.accepted)
  sound_stays o a Syncs h sound = rw (sync_alike saves o a.view h.alike).catalogue sound

  pub first_sound : (o : OpenValue) (a : Answer) → MayGive saves o a a.said → IsSound o.session.catalogue → IsSound a.view.session.catalogue
  first_sound o a h sound = sound_stays o a a.said h sound

  pub given_sound : (o : OpenValue) (answers : List Answer) → AreGiven saves o answers → IsSound o.session.catalogue → IsSound (view_after o answers).session.catalogue
  given_sound o [] h sound = sound
  given_sound o (a ∷ answers) h sound = given_sound a.view answers h.1 (first_sound o a h.0 sound)

  -- and the view is not refused over it
  unrefused_stays : (o : OpenValue) (a : Answer) (said : Said) → MayGive saves o a said → refusal_of o.session.catalogue o.session.query ≡ None → refusal_of a.view.session.catalogue a.view.session.query ≡ None
  unrefused_stays o a Tells h none = rw (h.alike.catalogue, h.alike.query) none
  unrefused_stays o a (Scripts lines) h none = rw (h.prints.alike.catalogue, h.prints.alike.query) h.unrefused
  unrefused_stays o a Syncs h none = let alike = sync_alike saves o a.view h.alike in rw (alike.catalogue, alike.query) none

  pub first_unrefused : (o : OpenValue) (a : Answer) → MayGive saves o a a.said → refusal_of o.session.catalogue o.session.query ≡ None → refusal_of a.view.session.catalogue a.view.session.query ≡ None
  first_unrefused o a h none = unrefused_stays o a a.said h none
