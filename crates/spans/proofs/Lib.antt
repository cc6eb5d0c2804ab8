pub mod SpanLaws
