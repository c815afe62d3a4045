mod MemberLemmas
mod ReadyLemmas
