-- `learner_saved::read_saved` meets its contract: each return is a way out of `read_saved`.
-- Assumes nothing.
use Rattle.learner_saved.proofs.Ways.{read-7, read_short, read-2, read-3, read-unlike, read-1, read-17, reads}
use Rattle.learner_saved.proofs.read_saved.Goals as goal

pub returns-then-not-are_allowed-clause-replaced : goal.returns-then-not-are_allowed-clause-replaced
returns-then-not-are_allowed-clause-replaced c = read-7 _ _ _ _ c.are_allowed.ensures c.if-not-are_allowed.true

pub returns-then-saved-lt-HEADER_LENGTH-clause-replaced : goal.returns-then-saved-lt-HEADER_LENGTH-clause-replaced
returns-then-saved-lt-HEADER_LENGTH-clause-replaced c =
    read_short _ _ _ _ c.are_allowed.ensures c.if-not-are_allowed.false c.if-saved-lt-HEADER_LENGTH.true

pub returns-then-not-is_marked-clause-replaced : goal.returns-then-not-is_marked-clause-replaced
returns-then-not-is_marked-clause-replaced c =
    read-2 _ _ _ _ c.are_allowed.ensures c.if-not-are_allowed.false c.if-saved-lt-HEADER_LENGTH.false _ c.is_marked.ensures c.if-not-is_marked.true

pub returns-then-version_in-ne-VERSION-clause-replaced : goal.returns-then-version_in-ne-VERSION-clause-replaced
returns-then-version_in-ne-VERSION-clause-replaced c =
    read-3 _ _ _ _ c.are_allowed.ensures c.if-not-are_allowed.false c.if-saved-lt-HEADER_LENGTH.false _ c.is_marked.ensures c.if-not-is_marked.false
    _ c.version_in.ensures c.if-version_in-ne-VERSION.true

pub returns-then-not-same_settings-clause-replaced : goal.returns-then-not-same_settings-clause-replaced
returns-then-not-same_settings-clause-replaced c =
    read-unlike _ _ _ _ c.are_allowed.ensures c.if-not-are_allowed.false c.if-saved-lt-HEADER_LENGTH.false _ c.is_marked.ensures c.if-not-is_marked.false
    _ c.version_in.ensures c.if-version_in-ne-VERSION.false _ c.same_settings.ensures c.if-not-same_settings.true

pub returns-then-saved-saved_length-clause-replaced : goal.returns-then-saved-saved_length-clause-replaced
returns-then-saved-saved_length-clause-replaced c =
    read-1 _ _ _ _ c.are_allowed.ensures c.if-not-are_allowed.false c.if-saved-lt-HEADER_LENGTH.false _ c.is_marked.ensures c.if-not-is_marked.false
    _ c.version_in.ensures c.if-version_in-ne-VERSION.false _ c.same_settings.ensures c.if-not-same_settings.false
    _ c.saved_length.ensures c.if-saved-saved_length.true

pub returns-then-not-saved_possible-clause-replaced : goal.returns-then-not-saved_possible-clause-replaced
returns-then-not-saved_possible-clause-replaced c =
    read-17 _ _ _ _ c.are_allowed.ensures c.if-not-are_allowed.false c.if-saved-lt-HEADER_LENGTH.false _ c.is_marked.ensures c.if-not-is_marked.false
    _ c.version_in.ensures c.if-version_in-ne-VERSION.false _ c.same_settings.ensures c.if-not-same_settings.false
    _ c.saved_length.ensures c.if-saved-saved_length.false _ c.saved_possible.ensures c.if-not-saved_possible.true

pub returns-clause-replaced : goal.returns-clause-replaced
returns-clause-replaced c =
    reads _ _ _ _ c.are_allowed.ensures c.if-not-are_allowed.false c.if-saved-lt-HEADER_LENGTH.false _ c.is_marked.ensures c.if-not-is_marked.false
    _ c.version_in.ensures c.if-version_in-ne-VERSION.false _ c.same_settings.ensures c.if-not-same_settings.false
    _ c.saved_length.ensures c.if-saved-saved_length.false _ c.saved_possible.ensures c.if-not-saved_possible.false
    _ c.store_saved.ensures.stored
