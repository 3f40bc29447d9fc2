-- What the public calls promise: the definitions that their contracts cite, by subject. Assumes nothing.
unfoldable pub use Rattle.rank_calls.specs.RankCall.{rank_call}
unfoldable pub use Rattle.rank_calls.specs.UnrankCall.{unrank_call, unrank_target}
unfoldable pub use Rattle.move_calls.specs.MovesCall.{moves_call, moves_list}
unfoldable pub use Rattle.move_calls.specs.MakeMoveCall.{make_move_call, make_move_target}
unfoldable pub use Rattle.class_calls.specs.RepresentativeCall.{representative_call}
pub use Rattle.fill_calls.specs.Fills.{FillCall, FillPairCall}
unfoldable pub use Rattle.entry_calls.specs.LookupCall.{lookup_call}
unfoldable pub use Rattle.entry_calls.specs.BestMoveCall.{best_move_call}
unfoldable pub use Rattle.check_calls.specs.CheckCall.{check_call}
unfoldable pub use Rattle.frame_calls.specs.ReadFrameCall.{read_frame_call}
unfoldable pub use Rattle.frame_calls.specs.WriteFrameCall.{write_frame_call, write_frame_target}
