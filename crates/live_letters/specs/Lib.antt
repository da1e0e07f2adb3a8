pub mod Meeting
pub mod MeetingAll
